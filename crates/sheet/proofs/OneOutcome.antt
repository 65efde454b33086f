-- Any two outcomes that a promise of this crate allows are one and the same: each promise says by one definition what the result is, and what a lent run holds. Assumes nothing.
use Prim.Native.Nat.{ℕ, ◌*◌}
use mathlib.Core.Path.{◌≡◌, sym, ap, ◌∙◌}
use mathlib.Core.List.{List, ◌++◌}
use lib.ListN.{drop}
use lib.Ieee.{Float}
use denote.Ref.{Bor}
use Rattle.sheet.specs.Contents.{entry_of, position_of, residuals_of, columns_of, read_count, read_into}
use Rattle.sheet.specs.Reading.{read_file, check_of, number_of, index_of, next_of}
use Rattle.sheet.specs.declared.file.Entry.{Entry}
use Rattle.sheet.specs.declared.file.FileRefusal.{FileRefusal}
use Rattle.std.specs.Prelude.{Option, Result}
use Rattle.sheet.specs.declared.reader.Reader.{Reader}

same : {A : Type 0} {x r s : A} → r ≡ x → s ≡ x → r ≡ s
same p q = p ∙ sym q

module _ (file : List ℕ) where
  pub one-check : (r s : Result ℕ FileRefusal) → r ≡ check_of (read_file file) → s ≡ check_of (read_file file) → r ≡ s
  one-check r s p q = same p q

  -- `entry_at`
  pub one-entry : (i : ℕ) (r s : Entry) → r ≡ entry_of file i → s ≡ entry_of file i → r ≡ s
  one-entry i r s p q = same p q

  -- `position_at`
  pub one-position : (e : Entry) (t r s : ℕ) → r ≡ position_of file e t → s ≡ position_of file e t → r ≡ s
  one-position e t r s p q = same p q

  -- `next_at`, `Reader::entry` and `read_entry`
  pub one-next : (i : ℕ) (r s : Option Entry) → r ≡ next_of file i → s ≡ next_of file i → r ≡ s
  one-next i r s p q = same p q

  -- what `read_residuals` and `read_columns` give, and the run that they leave behind
  pub one-read-count : (e : Entry) (count : ℕ) (run : List Float) (r s : ℕ) → r ≡ read_count file e count run → s ≡ read_count file e count run → r ≡ s
  one-read-count e count run r s p q = same p q

  pub one-run : (e : Entry) (first count : ℕ) (run r s : List Float) → r ≡ read_into file e first count run → s ≡ read_into file e first count run → r ≡ s
  one-run e first count run r s p q = same p q

  -- that run where all is read
  pub one-residuals : (e : Entry) (run r s : List Float) → r ≡ residuals_of file e ++ drop e.rows run → s ≡ residuals_of file e ++ drop e.rows run → r ≡ s
  one-residuals e run r s p q = same p q

  pub one-columns : (e : Entry) (run r s : List Float) → r ≡ columns_of file e ++ drop (e.rows * e.columns) run → s ≡ columns_of file e ++ drop (e.rows * e.columns) run → r ≡ s
  one-columns e run r s p q = same p q

-- `FileRefusal::number` and `index`
pub one_number : (f : FileRefusal) (r s : ℕ) → r ≡ number_of f → s ≡ number_of f → r ≡ s
one_number f r s p q = same p q

pub one_index : (f : FileRefusal) (r s : ℕ) → r ≡ index_of f → s ≡ index_of f → r ≡ s
one_index f r s p q = same p q

-- `Reader::new`, `moved` and `advanced`: a reader is its file and its next entry
pub one_reader : (file : Bor (List ℕ)) (next : ℕ) (r s : Reader) → (r.file ≡ file) × (r.next ≡ next) → (s.file ≡ file) × (s.next ≡ next) → r ≡ s
one_reader file next r s p q = ap (λ x. record { file = x; next = r.next }) (same p.0 q.0) ∙ ap (λ k. record { file = s.file; next = k }) (same p.1 q.1)
