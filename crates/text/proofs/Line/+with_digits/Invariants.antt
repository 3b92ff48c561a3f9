-- `text::Line::with_digits` ends: each call has a digit less. Assumes nothing.
use Rattle.text.proofs.Line.+with_digits.Given as goal

abbrev pub decreases-with_digits : goal.decreases-with_digits
decreases-with_digits l = l.digits
