-- The theorems about print positions (document 02, W-202). An entry meets 8 exactly where it has positions and one is not above the one before it; in an accepted file
-- they rise from any row to any later one; the numbers behind them are read as if they were not there; and a file without positions is read as document 01 says. Assumes nothing.
use Prim.Native.Nat.{ℕ, ◌+◌, ◌*◌, ◌<◌}
use native.Mathlib.Nat.{add-zero, mul-zero}
use native.Mathlib.Omega.{arith}
use mathlib.Core.Path.{◌≡◌, refl, sym, ap, ◌∙◌}
use mathlib.Core.Bool.{Bool, true, false, ◌&&◌, true≢false}
use mathlib.Core.List.{List}
use lib.Dec.{eqb}
use lib.ListN.{get_or}
use lib.Ieee.{Float}
use borrow.Author.Tests.{eq-eqb, ne_eqb, eqb-true, eqb-false, not-true}
use Rattle.floats.specs.Bits.{little_endian}
use Rattle.sheet.specs.Contents.{entry_place, entry_of, spare_of, position_of, residuals_of, columns_of}
use Rattle.sheet.specs.Reading.{not_rising, meets}
use Rattle.sheet.specs.Tiling.{Tiled}
use Rattle.sheet.specs.Positions.{HasFall, numbers_alone, AsBefore}
use Rattle.sheet.specs.declared.file.Entry.{Entry}
use Rattle.sheet.specs.declared.file.FileRefusal.TheVariants.{NotRising}
use Rattle.sheet.proofs.RisingLaws.{falls-somewhere, fall-rises, throughout}

both_hold : (a b : Bool) → a && b ≡ true → (a ≡ true) × (b ≡ true)
both_hold true b h = (refl, h)
both_hold false b h = absurd (true≢false (sym h))

-- 8 is met exactly where the entry has positions and one of them is at most the one before it
pub not-rising-when : (file : List ℕ) (i : ℕ) → (meets file (NotRising i) ≡ true → HasFall file i) × (HasFall file i → meets file (NotRising i) ≡ true)
unfolding meets not_rising
not-rising-when file i = (
  λ h. let r = both_hold (eqb (entry_of file i).positions 1) _ h in (eqb-true _ _ r.0, falls-somewhere _ _ (not-true _ r.1)),
  λ w. rw (eq-eqb _ _ w.0, fall-rises _ _ w.1),
)

-- in an accepted file the positions of an entry that has them rise from any row to any later one
pub all-rise : (file : List ℕ) (n : ℕ) → Tiled file n → (i : ℕ) → i < n → (entry_of file i).positions ≡ 1
    → (s t : ℕ) → s < t → t < (entry_of file i).rows → position_of file (entry_of file i) s < position_of file (entry_of file i) t
all-rise file n tiled i l p s t = throughout (position_of file (entry_of file i)) (entry_of file i).rows (tiled.rising i l p) s t

-- ---- the numbers behind the positions

module _ (file : List ℕ) (e : Entry) where
  pub numbers_after : (residuals_of file e ≡ residuals_of file (numbers_alone e)) × (columns_of file e ≡ columns_of file (numbers_alone e))
  numbers_after = (simp (mul-zero, add-zero), simp (mul-zero, add-zero))

  -- so whatever is made of residuals, columns, their count and the codes is the same for both, the test's outcome too
  pub same_answer : {A : Type 0} (answer : List Float → List Float → ℕ → ℕ → ℕ → A)
      → answer (residuals_of file e) (columns_of file e) e.columns e.alternative e.choice
      ≡ answer (residuals_of file (numbers_alone e)) (columns_of file (numbers_alone e)) (numbers_alone e).columns (numbers_alone e).alternative (numbers_alone e).choice
  same_answer answer = ap (λ r. answer r (columns_of file e) e.columns e.alternative e.choice) numbers_after.0 ∙ ap (λ x. answer (residuals_of file (numbers_alone e)) x e.columns e.alternative e.choice) numbers_after.1

-- ---- without positions

-- six bytes of which the first is 0 are as a number 0 exactly where the other five are
first_byte : (s : List ℕ) (p : ℕ) → little_endian 6 s (p + 10) ≡ get_or s (p + 10) 0 + 256 * little_endian 5 s (p + 11)
unfolding little_endian
first_byte s p = let e : p + 10 + 1 ≡ p + 11 = omega arith in rw e

other-five : (b n : ℕ) → b ≡ 0 → eqb (b + 256 * n) 0 ≡ eqb n 0
other-five b n z = go (eqb n 0) refl
  where
    go : (r : Bool) → eqb n 0 ≡ r → eqb (b + 256 * n) 0 ≡ r
    go true e = let h = eqb-true n 0 e in eq-eqb (b + 256 * n) 0 (omega arith)
    go false e = ne_eqb (b + 256 * n) 0 (λ q. eqb-false n 0 e (omega arith))

byte-ten : (file : List ℕ) (i : ℕ) → (entry_of file i).positions ≡ get_or file (entry_place i + 10) 0
unfolding entry_of
byte-ten file i = refl

pub without-positions : (file : List ℕ) (i : ℕ) → (entry_of file i).positions ≡ 0 → AsBefore file i
unfolding meets not_rising
without-positions file i z = record {
  no-fall = rw z;
  ends = rw (z, mul-zero (entry_of file i).rows, add-zero (entry_of file i).offset);
  numbers = λ t. rw (z, mul-zero (entry_of file i).rows, add-zero (entry_of file i).offset);
  codes = rw (z, first_byte file (entry_place i), other-five (get_or file (entry_place i + 10) 0) (spare_of file i) (sym (byte-ten file i) ∙ z));
}
