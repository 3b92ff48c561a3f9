-- A stream in two parts, heard. Assumes nothing.
use Rattle.std.specs.Prelude.{◌≡◌, refl, Bool, List, [], ◌∷◌, ◌++◌}
use Rattle.std.proofs.Common.{sym, ap, ◌∙◌, append_assoc}
use Rattle.entry.specs.declared.Entry.{Entry}
use Rattle.sdlc.specs.declared.Addressing.{Addressing}
use Rattle.sdlc.specs.declared.Listener.{Listener}
use Rattle.sdlc.specs.Hearing.{hear_sdlc}
use Rattle.whole.specs.Heard.{handed, Final, final, before, hear_all}

pub before_join : (xs ys : List Entry) (f : Final) → before xs (before ys f) ≡ before (xs ++ ys) f
before_join xs ys f =
    ap (λ (l : List Entry). final f.listener l) (sym (append_assoc xs ys f.got))

pub hear_join : (g : Addressing) (s : Listener) (xs ys : List Bool)
    → let f =
    hear_all g s xs in hear_all g s (xs ++ ys) ≡ before f.got (hear_all g f.listener ys)
unfolding hear_all
hear_join g s [] ys = refl
hear_join g s (x ∷ xs) ys =
    let h = hear_sdlc g s x in
    let f = hear_all g h.listener xs in
    ap (before (handed h)) (hear_join g h.listener xs ys)
    ∙ before_join (handed h) f.got (hear_all g f.listener ys)
