-- Bytes put into a buffer at a place: none, one more in front or behind, a run behind another; and a line at the buffer's front. Assumes nothing.
use Prim.Native.Nat.{ℕ, suc, ◌+◌, ◌-◌, ◌≤◌, ◌<◌}
use native.Mathlib.Numerals.{add-one}
use native.Mathlib.Nat.{add-zero, zero-add}
use native.Mathlib.Omega.{arith}
use mathlib.Core.Path.{◌≡◌, refl, sym, ◌∙◌}
use mathlib.Core.List.{List, [], ◌∷◌, ◌++◌, append_assoc, append-nil}
use lib.ListN.{length, get_or, set, take, drop, take-append-drop, length-append, length-take, length-drop, drop_of_length-le}
use lib.Seq.{drop-cons, take-suc, set_at, take_at, length-take-le, drop-append-add, drop-drop, take_all}
use borrow.Author.Tests.{lt-ltb, le-ltb}
use mathlib.Core.Path.{ap}
use mathlib.Core.Bool.{◌||◌}
use Rattle.std.specs.Prelude.{nat_eq}
use Rattle.std.specs.List.{list_any}
use Rattle.sheet.specs.Contents.{Counts}
use Rattle.lines.specs.Lines.{put_at, fronted, front_length, among}

-- bytes put at a place: none; one more in front of those put so far
pub put-none : (p : ℕ) (l : List ℕ) → put_at p [] l ≡ l
unfolding put_at
put-none p l = rw add-zero (take-append-drop p l)

pub put-before : (p : ℕ) (d : ℕ) (ys l : List ℕ) → p < length l → set (put_at (p + 1) ys l) p d ≡ put_at p (d ∷ ys) l
unfolding put_at
put-before p d ys l h =
    let q : p + 1 + length ys ≡ p + suc (length ys) = omega arith in
    rw (q, add-one p, take-suc l p 0 h, append_assoc (take p l) (get_or l p 0 ∷ []) (ys ++ drop (p + suc (length ys)) l))
    (set_at (take p l) (get_or l p 0) (ys ++ drop (p + suc (length ys)) l) d p (length-take-le p l (omega arith)))

pub length-put : (p : ℕ) (ys l : List ℕ) → p + length ys ≤ length l → length (put_at p ys l) ≡ length l
unfolding put_at
length-put p ys l h = simp (length-append, length-take, length-drop) (omega arith)

-- one more behind them
pub put-after : (p k : ℕ) (ys l : List ℕ) (d : ℕ) → length ys ≡ k → p + k < length l → set (put_at p ys l) (p + k) d ≡ put_at p (ys ++ (d ∷ [])) l
unfolding put_at
put-after p k ys l d e h =
    let m : length (take p l ++ ys) ≡ p + k = length-append (take p l) ys ∙ rw (length-take-le p l (omega arith), e) in
    let q : p + length (ys ++ (d ∷ [])) ≡ suc (p + k) = simp length-append (omega arith) in
    rw (q, e, append_assoc ys (d ∷ []) (drop (suc (p + k)) l), ← append_assoc (take p l) ys (drop (p + k) l), ← append_assoc (take p l) ys (d ∷ drop (suc (p + k)) l), drop-cons l (p + k) 0 h)
    (set_at (take p l ++ ys) (get_or l (p + k) 0) (drop (suc (p + k)) l) d (p + k) m)

-- a run behind another
drop_past : (p q : List ℕ) (n k : ℕ) → length p ≡ n → drop (n + k) (p ++ q) ≡ drop k q
drop_past p q n k e = rw (← e) (drop-append-add p q k)

pub put-more : (p : ℕ) (ys zs l : List ℕ) → p ≤ length l → put_at (p + length ys) zs (put_at p ys l) ≡ put_at p (ys ++ zs) l
unfolding put_at
put-more p ys zs l h =
    let m : length (take p l ++ ys) ≡ p + length ys = length-append (take p l) ys ∙ rw (length-take-le p l h) in
    let q : p + length (ys ++ zs) ≡ p + length ys + length zs = simp length-append (omega arith) in
    rw (q, ← append_assoc (take p l) ys (drop (p + length ys) l), take_at (take p l ++ ys) (drop (p + length ys) l) (p + length ys) m, drop_past (take p l ++ ys) (drop (p + length ys) l) (p + length ys) (length zs) m, drop-drop (length zs) (p + length ys) l)
    (simp append_assoc)

-- `contains` over the places
pub among-any : (ps : List ℕ) (t : ℕ) → list_any (λ p. nat_eq p t) ps ≡ among ps t
unfolding among
among-any [] t = refl
among-any (p ∷ ps) t = ap (λ b. nat_eq p t || b) (among-any ps t)

-- as many bytes as the buffer has, at place 0
pub put-all : (ys l : List ℕ) → length ys ≡ length l → put_at 0 ys l ≡ ys
unfolding put_at
put-all ys l e = rw (zero-add, drop_of_length-le l {i = length ys} (omega arith), append-nil)

-- one byte more behind k bytes at the front
pub front-after : (k : ℕ) (ys l : List ℕ) (d : ℕ) → length ys ≡ k → k < length l → set (ys ++ drop k l) k d ≡ put_at 0 (ys ++ (d ∷ [])) l
unfolding put_at
front-after k ys l d e h = rw (zero-add k, zero-add (length ys), e) at (put-after 0 k ys l d e (omega arith))

-- how long the part of a buffer from `at` on is
pub part-length : (at : ℕ) (l : List ℕ) → length (take (length l - at) (drop at l)) ≡ length l - at
part-length at l = let d : length (drop at l) ≡ length l - at = length-drop at l in length-take-le (length l - at) (drop at l) (omega arith)

-- bytes put at the front of the part of a buffer from `at` on
pub part-front : (at : ℕ) (ys l : List ℕ) → at + length ys ≤ length l → take at l ++ (put_at 0 ys (take (length l - at) (drop at l)) ++ drop (length l - at) (drop at l)) ≡ put_at at ys l
unfolding put_at
part-front at ys l room =
    let d : length (drop at l) ≡ length l - at = length-drop at l in
    let whole : take (length l - at) (drop at l) ≡ drop at l = take_all (length l - at) (drop at l) (omega arith) in
    let none : drop (length l - at) (drop at l) ≡ [] = drop_of_length-le (drop at l) {i = length l - at} (omega arith) in
    rw (whole, none, zero-add, append-nil, drop-drop (length ys) at l)

-- ---- a line at the front, where there is the room asked for, and where there is not

module _ (room : ℕ) (line l : List ℕ) where
  pub front-put : {r : ℕ} {out : List ℕ} → room ≤ length l → r ≡ length line → out ≡ put_at 0 line l → (r ≡ front_length room line l) × ((out ≡ fronted room line l) × Counts r out)
  unfolding put_at
  front-put {r} {out} h e q =
      let f : out ≡ line ++ drop (length line) l = q ∙ rw zero-add in
      let c : r ≤ length out = rw (f, e, length-append line (drop (length line) l)) (omega arith) in
      rw (le-ltb _ _ h) (e, (f, (c, sym (length-take-le r out c))))

  pub front-left : length l < room → (0 ≡ front_length room line l) × ((l ≡ fronted room line l) × Counts 0 l)
  front-left h = rw (lt-ltb _ _ h) (refl, (refl, (omega arith, refl)))
