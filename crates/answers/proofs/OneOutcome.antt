-- Any two outcomes that the promise of `answer` allows are one and the same: it says by one definition what the length is, and what the buffer holds. Assumes nothing.
use Prim.Native.Nat.{ℕ}
use mathlib.Core.Path.{◌≡◌, sym, ◌∙◌}
use mathlib.Core.List.{List}
use Rattle.lines.proofs.OneOutcome.{Written}
use Rattle.answers.specs.Answer.{answer_to, most_bytes}

pub one_answer : (file out : List ℕ) (n m : ℕ) (r s : List ℕ) → Written most_bytes (answer_to file) out n r → Written most_bytes (answer_to file) out m s → (n ≡ m) × (r ≡ s)
one_answer file out n m r s p q = (p.0 ∙ sym q.0, p.1 ∙ sym q.1)
