-- What SDLC hands over is plain. Assumes nothing.
use Rattle.std.specs.Prelude.{Option, Some, None, option_map, IfSome, Bool, true, false, ℕ, ◌+◌, eqb, ltb}
use Rattle.common.specs.Tools.{if_elim}
use Rattle.entry.specs.Entry.{plain_entry}
use Rattle.entry.specs.declared.Entry.{Entry}
use Rattle.queue.specs.Holding.{Plain, plain}
use Rattle.sdlc.specs.declared.Addressing.{Addressing}
use Rattle.sdlc.specs.declared.Chars.{Chars}
use Rattle.sdlc.specs.declared.Listener.{Listener}
use Rattle.sdlc.specs.declared.Listened.{Listened}
use Rattle.sdlc.specs.Hearing.{full_delay, last_bit, spilled, oldest_bit, wrong, accept, push}
use Rattle.sdlc.specs.Hearing.{deaf, one, zero_bit, hear_sdlc}

-- no parity, overrun or framing mark

abbrev PlainListened : Listened → Type 0
PlainListened h = IfSome h.entry Plain

-- a character held, if one is, whether it ends a frame or not
held_plain : (h : Option ℕ) (e b : Bool) → IfSome (option_map (λ v. plain_entry v e b) h) Plain
held_plain None e b = tt
held_plain (Some v) e b = plain

accept_plain : (g : Addressing) (c : Chars) (k o : ℕ) (x : Bool) (d : ℕ) (b : Bool)
    → PlainListened (accept g c k o x d b)
unfolding accept
accept_plain g c k o x d b =
    if_elim PlainListened (ltb c.count last_bit) tt
    (if_elim PlainListened (wrong g c.held _) tt (held_plain c.held false false))

push_plain : (g : Addressing) (s : Listener) (o : ℕ) (x b : Bool) → PlainListened (push g s o x b)
unfolding push
push_plain g s o x b =
    let d = s.content.delay in
    if_elim PlainListened (ltb d full_delay) tt
    (accept_plain g s.content.chars s.check o x (spilled d b) (oldest_bit d))

one_plain : (g : Addressing) (s : Listener) → PlainListened (one g s)
unfolding one
one_plain g s =
    let c = s.content in
    if_elim PlainListened c.hunt tt
    (if_elim PlainListened (ltb c.ones 6)
    (if_elim PlainListened c.skip tt (push_plain g s (c.ones + 1) s.broken true)) tt)

zero_plain : (g : Addressing) (s : Listener) → PlainListened (zero_bit g s)
unfolding zero_bit
zero_plain g s =
    let c = s.content in
    if_elim PlainListened (eqb c.ones 6)
    (if_elim (λ (e : Option Entry). IfSome e Plain) (deaf c) tt (held_plain c.chars.held true _))
    (if_elim PlainListened (deaf c) tt
    (if_elim PlainListened (eqb c.ones 5) tt (push_plain g s 0 false false)))

pub hear_plain : (g : Addressing) (s : Listener) (b : Bool)
    → IfSome (hear_sdlc g s b).entry Plain
unfolding hear_sdlc
hear_plain g s b = if_elim PlainListened b (one_plain g s) (zero_plain g s)
