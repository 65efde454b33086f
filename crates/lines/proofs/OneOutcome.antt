-- Any two outcomes that a promise of this crate allows are one and the same: each promise says by one definition what the result is, and what a lent run holds. Assumes nothing.
use Prim.Native.Nat.{ℕ}
use mathlib.Core.Path.{◌≡◌, sym, ◌∙◌}
use mathlib.Core.List.{List}
use Rattle.outcome.specs.declared.Outcome.{Outcome}
use Rattle.sheet.specs.declared.file.FileRefusal.{FileRefusal}
use Rattle.lines.specs.Lines.{Word, line_of, longest_of, kinds_of, words_at, fronted, front_length, words_fronted, words_length}
use Rattle.lines.specs.Fields.{fields_of, values_of, longest, file_line_of}

-- what is promised of a length n and a buffer r, for a line that wants some room and for the line of some words
abbrev pub Written : ℕ → List ℕ → List ℕ → ℕ → List ℕ → Type 0
Written room line out n r = (n ≡ front_length room line out) × (r ≡ fronted room line out)

abbrev pub WrittenWords : List Word → List ℕ → ℕ → List ℕ → Type 0
WrittenWords ws out n r = (n ≡ words_length ws out) × (r ≡ words_fronted ws out)

one_written : (room : ℕ) (line out : List ℕ) (n m : ℕ) (r s : List ℕ) → Written room line out n r → Written room line out m s → (n ≡ m) × (r ≡ s)
one_written room line out n m r s p q = (p.0 ∙ sym q.0, p.1 ∙ sym q.1)

-- `write_line`, `write_file_refusal` and `write_words`
pub one_line : (i : ℕ) (o : Outcome) (out : List ℕ) (n m : ℕ) (r s : List ℕ) → Written longest (line_of (fields_of i o)) out n r → Written longest (line_of (fields_of i o)) out m s → (n ≡ m) × (r ≡ s)
one_line i o = one_written longest (line_of (fields_of i o))

pub one-file-line : (f : FileRefusal) (out : List ℕ) (n m : ℕ) (r s : List ℕ) → Written longest (file_line_of f) out n r → Written longest (file_line_of f) out m s → (n ≡ m) × (r ≡ s)
one-file-line f = one_written longest (file_line_of f)

pub one-words : (values patterns out : List ℕ) (n m : ℕ) (r s : List ℕ) → WrittenWords (words_at values patterns) out n r → WrittenWords (words_at values patterns) out m s → (n ≡ m) × (r ≡ s)
one-words values patterns = one_written (longest_of (kinds_of (words_at values patterns))) (line_of (words_at values patterns))

-- `fields_of`
pub one-fields : (i : ℕ) (o : Outcome) (r s : List ℕ) → r ≡ values_of i o → s ≡ values_of i o → r ≡ s
one-fields i o r s p q = p ∙ sym q
