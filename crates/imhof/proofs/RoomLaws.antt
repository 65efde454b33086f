-- Laws of the part room: what a store of one part does to the others, and that a list of parts laid out in the room can be read back, stored into, and grown.
-- One idea: stores of different parts touch different numbers, so they commute, and of two stores of the same part the last counts. Assumes nothing.
use mathlib.Core.Path.{◌≡◌, refl, sym, ap, ap₂, ◌∙◌}
use mathlib.Core.Logic.{⊎_elim, ◌≢◌}
use mathlib.Core.List.{List, [], ◌∷◌, ◌++◌, map, append_assoc}
use Prim.Native.Nat.{ℕ, zero, suc, ◌+◌, ◌-◌, ◌≤◌, ◌<◌}
use native.Mathlib.Nat.{not-suc-le-zero, eq-or-lt_of_le}
use native.Mathlib.Omega.{arith}
use lib.ListN.{length, get_or, set, take, drop, length-set, length-append, length-drop, length-map, get_or-map, get_or-append}
use lib.Seq.{get_or-set_same, get_or-set_other, set-get_or, set-set, set_comm, set_out, set_at, set-append_left, get_or_at, ext_get_or, take-suc, take-length, length-take-le, get_or-take, get_or-drop}
use lib.Ieee.{Float, nan}
use Rattle.floats.specs.Words.{◌‼◌}
use Rattle.floats.specs.Turns.{turns}
use Rattle.floats.proofs.TurnLaws.{turns_more, turns_same}
use Rattle.floats.proofs.TableLaws.{length-table, get_d-table}
use Rattle.imhof.specs.declared.Part.{Part}
use Rattle.imhof.specs.Parts.{most_parts, part_at, without}
use Rattle.imhof.specs.Room.{PartRoom, left_ends, right_ends, values, errors, stored, laid_out, stored_at, parts_in}

-- ---- four stores at four places

abbrev four : ℕ → ℕ → ℕ → ℕ → Float → Float → Float → Float → List Float → List Float
four a b c d x y z w l = set (set (set (set l a x) b y) c z) d w

module _ (a b c d : ℕ) (x y z w : Float) (l : List Float) where
  -- a store elsewhere may go first
  four-elsewhere : (e : ℕ) (v : Float) → a ≢ e → b ≢ e → c ≢ e → d ≢ e → set (four a b c d x y z w l) e v ≡ four a b c d x y z w (set l e v)
  four-elsewhere e v p q r s =
      set_comm (set (set (set l a x) b y) c z) d e w v s
      ∙ ap (λ k. set k d w) (set_comm (set (set l a x) b y) c e z v r
      ∙ ap (λ k. set k c z) (set_comm (set l a x) b e y v q
      ∙ ap (λ k. set k b y) (set_comm l a e x v p)))

  read-elsewhere : (e : ℕ) → e ≢ a → e ≢ b → e ≢ c → e ≢ d → four a b c d x y z w l ‼ e ≡ l ‼ e
  read-elsewhere e p q r s =
      get_or-set_other (set (set (set l a x) b y) c z) d e w nan s
      ∙ get_or-set_other (set (set l a x) b y) c e z nan r
      ∙ get_or-set_other (set l a x) b e y nan q
      ∙ get_or-set_other l a e x nan p

module _ (a b c d : ℕ) (ab : a < b) (bc : b < c) (cd : c < d) where
  -- the four numbers are read back
  read-four : (x y z w : Float) (l : List Float) → d < length l
      → (four a b c d x y z w l ‼ a ≡ x) × (four a b c d x y z w l ‼ b ≡ y) × (four a b c d x y z w l ‼ c ≡ z) × (four a b c d x y z w l ‼ d ≡ w)
  read-four x y z w l h = (
    get_or-set_other (set (set (set l a x) b y) c z) d a w nan (omega arith) ∙ get_or-set_other (set (set l a x) b y) c a z nan (omega arith) ∙ get_or-set_other (set l a x) b a y nan (omega arith) ∙ get_or-set_same l a x nan (omega arith),
    get_or-set_other (set (set (set l a x) b y) c z) d b w nan (omega arith) ∙ get_or-set_other (set (set l a x) b y) c b z nan (omega arith) ∙ get_or-set_same (set l a x) b y nan (simp length-set (omega arith)),
    get_or-set_other (set (set (set l a x) b y) c z) d c w nan (omega arith) ∙ get_or-set_same (set (set l a x) b y) c z nan (simp length-set (omega arith)),
    get_or-set_same (set (set (set l a x) b y) c z) d w nan (simp length-set (omega arith)),
  )

  -- of two fourfold stores at the same places the last counts
  four-over : (x y z w x' y' z' w' : Float) (l : List Float) → four a b c d x y z w (four a b c d x' y' z' w' l) ≡ four a b c d x y z w l
  four-over x y z w x' y' z' w' l =
      ap (λ k. set (set (set k b y) c z) d w) (over-a) ∙ ap (λ k. set (set k c z) d w) over-b ∙ ap (λ k. set k d w) over-c ∙ set-set (set (set (set l a x) b y) c z) d w' w
    where
      over-a : set (four a b c d x' y' z' w' l) a x ≡ four a b c d x y' z' w' l
      over-a =
          set_comm (set (set (set l a x') b y') c z') d a w' x (omega arith)
          ∙ ap (λ k. set k d w') (set_comm (set (set l a x') b y') c a z' x (omega arith)
          ∙ ap (λ k. set k c z') (set_comm (set l a x') b a y' x (omega arith) ∙ ap (λ k. set k b y') (set-set l a x' x)))

      over-b : set (four a b c d x y' z' w' l) b y ≡ four a b c d x y z' w' l
      over-b =
          set_comm (set (set (set l a x) b y') c z') d b w' y (omega arith)
          ∙ ap (λ k. set k d w') (set_comm (set (set l a x) b y') c b z' y (omega arith) ∙ ap (λ k. set k c z') (set-set (set l a x) b y' y))

      over-c : set (four a b c d x y z' w' l) c z ≡ four a b c d x y z w' l
      over-c = set_comm (set (set (set l a x) b y) c z') d c w' z (omega arith) ∙ ap (λ k. set k d w') (set-set (set (set l a x) b y) c z' z)

-- ---- one part, and two

pub length-stored : (i : ℕ) (p : Part) (r : List Float) → length (stored i p r) ≡ length r
unfolding stored
length-stored i p r = simp length-set

-- storing what stands there changes nothing
pub store_same : (i : ℕ) (r : List Float) → stored i (stored_at r i) r ≡ r
unfolding stored stored_at
store_same i r = rw (set-get_or r (left_ends + i) nan, set-get_or r (right_ends + i) nan, set-get_or r (values + i) nan, set-get_or r (errors + i) nan)

module _ (i : ℕ) (p : Part) (inside : i < most_parts) where
  -- a part is read back as it was stored
  pub read_same : (r : List Float) → PartRoom r → stored_at (stored i p r) i ≡ p
  unfolding stored stored_at
  read_same r room =
      let e = read-four (left_ends + i) (right_ends + i) (values + i) (errors + i) (omega arith) (omega arith) (omega arith) p.lo p.hi p.value p.error r (omega arith) in
      λ k. record { lo = e.0 k; hi = e.1 k; value = e.2 k; error = e.3 k }

  -- of two stores of one part the last counts
  pub store-over : (q : Part) (r : List Float) → stored i p (stored i q r) ≡ stored i p r
  unfolding stored
  store-over q r = four-over (left_ends + i) (right_ends + i) (values + i) (errors + i) (omega arith) (omega arith) (omega arith) p.lo p.hi p.value p.error q.lo q.hi q.value q.error r

  module _ (j : ℕ) (here : j < most_parts) (apart : i ≢ j) where
    pub read-other : (r : List Float) → stored_at (stored i p r) j ≡ stored_at r j
    unfolding stored stored_at
    read-other r =
        let e = read-elsewhere (left_ends + i) (right_ends + i) (values + i) (errors + i) p.lo p.hi p.value p.error r in
        let e0 = e (left_ends + j) (omega arith) (omega arith) (omega arith) (omega arith) in
        let e1 = e (right_ends + j) (omega arith) (omega arith) (omega arith) (omega arith) in
        let e2 = e (values + j) (omega arith) (omega arith) (omega arith) (omega arith) in
        let e3 = e (errors + j) (omega arith) (omega arith) (omega arith) (omega arith) in
        λ k. record { lo = e0 k; hi = e1 k; value = e2 k; error = e3 k }

    -- stores of two parts commute
    pub store_apart : (q : Part) (r : List Float) → stored j q (stored i p r) ≡ stored i p (stored j q r)
    unfolding stored
    store_apart q r =
        let e = four-elsewhere (left_ends + i) (right_ends + i) (values + i) (errors + i) p.lo p.hi p.value p.error in
        ap (λ k. set (set (set k (right_ends + j) q.hi) (values + j) q.value) (errors + j) q.error) (e r (left_ends + j) q.lo (omega arith) (omega arith) (omega arith) (omega arith))
        ∙ ap (λ k. set (set k (values + j) q.value) (errors + j) q.error) (e (set r (left_ends + j) q.lo) (right_ends + j) q.hi (omega arith) (omega arith) (omega arith) (omega arith))
        ∙ ap (λ k. set k (errors + j) q.error) (e (set (set r (left_ends + j) q.lo) (right_ends + j) q.hi) (values + j) q.value (omega arith) (omega arith) (omega arith) (omega arith))
        ∙ e (set (set (set r (left_ends + j) q.lo) (right_ends + j) q.hi) (values + j) q.value) (errors + j) q.error (omega arith) (omega arith) (omega arith) (omega arith)

-- ---- a list of parts, the first k of them stored

module _ (ps : List Part) where
  abbrev first_stored : ℕ → List Float → List Float
  first_stored k r = turns k (λ i. stored i (part_at ps i)) r

  stored_next : (k : ℕ) (r : List Float) → first_stored (suc k) r ≡ stored k (part_at ps k) (first_stored k r)
  unfolding turns
  stored_next k r = refl

  length-first : (k : ℕ) (r : List Float) → length (first_stored k r) ≡ length r
  unfolding turns
  length-first zero r = refl
  length-first (suc k) r = length-stored k (part_at ps k) (first_stored k r) ∙ length-first k r

  -- each of them is read back
  read_first : (k i : ℕ) (r : List Float) → k ≤ most_parts → i < k → PartRoom r → stored_at (first_stored k r) i ≡ part_at ps i
  read_first zero i r fit h room = absurd (not-suc-le-zero h)
  read_first (suc k) i r fit h room =
      ap (λ l. stored_at l i) (stored_next k r)
      ∙ ⊎_elim
      (λ e. rw e (read_same k (part_at ps k) (omega arith) (first_stored k r) (rw (length-first k r) room)))
      (λ l. read-other k (part_at ps k) (omega arith) i (omega arith) (omega arith) (first_stored k r) ∙ read_first k i r (omega arith) l room)
      (eq-or-lt_of_le {n = i} {m = k} (omega arith))

  -- a store of a later part may go last
  first-apart : (k j : ℕ) (p : Part) (r : List Float) → k ≤ j → j < most_parts → first_stored k (stored j p r) ≡ stored j p (first_stored k r)
  unfolding turns
  first-apart zero j p r h fit = refl
  first-apart (suc k) j p r h fit =
      ap (stored k (part_at ps k)) (first-apart k j p r (omega arith) fit) ∙ store_apart j p fit k (omega arith) (omega arith) (part_at ps k) (first_stored k r)

  -- a store that one of them goes over may be left out
  first-absorbs : (k j : ℕ) (p : Part) (r : List Float) → k ≤ most_parts → j < k → first_stored k (stored j p r) ≡ first_stored k r
  unfolding turns
  first-absorbs zero j p r fit h = absurd (not-suc-le-zero h)
  first-absorbs (suc k) j p r fit h =
      ⊎_elim
      (λ e. rw e (ap (stored k (part_at ps k)) (first-apart k k p r (omega arith) (omega arith)) ∙ store-over k (part_at ps k) (omega arith) p (first_stored k r)))
      (λ l. ap (stored k (part_at ps k)) (first-absorbs k j p r (omega arith) l))
      (eq-or-lt_of_le {n = j} {m = k} (omega arith))

  -- one part replaced
  first-set : (k w : ℕ) (p : Part) (r : List Float) → k ≤ most_parts → k ≤ length ps → w < k → stored w p (first_stored k r) ≡ turns k (λ i. stored i (part_at (set ps w p) i)) r
  unfolding turns
  first-set zero w p r fit h l = absurd (not-suc-le-zero l)
  first-set (suc k) w p r fit h l =
      ⊎_elim
      (λ e.
      rw e
      (store-over k p (omega arith) (part_at ps k) (first_stored k r)
      ∙ ap (stored k p) (turns_same (λ i. stored i (part_at ps i)) (λ i. stored i (part_at (set ps k p) i)) k (λ i x b. ap (λ q. stored i q x) (sym (get_or-set_other ps k i p _ (omega arith)))) r)
      ∙ ap (λ q. stored k q (turns k (λ i. stored i (part_at (set ps k p) i)) r)) (sym (get_or-set_same ps k p _ h))))
      (λ b.
      store_apart k (part_at ps k) (omega arith) w (omega arith) (omega arith) p (first_stored k r)
      ∙ ap (stored k (part_at ps k)) (first-set k w p r (omega arith) (omega arith) b)
      ∙ ap (λ q. stored k q (turns k (λ i. stored i (part_at (set ps w p) i)) r)) (sym (get_or-set_other ps w k p _ (omega arith))))
      (eq-or-lt_of_le {n = w} {m = k} (omega arith))

-- ---- a list of parts laid out

pub length-laid : (ps : List Part) (r : List Float) → length (laid_out ps r) ≡ length r
unfolding laid_out
length-laid ps r = length-first ps (length ps) r

-- one part replaced, and one more
pub laid-set : (ps : List Part) (w : ℕ) (p : Part) (r : List Float) → length ps ≤ most_parts → w < length ps → stored w p (laid_out ps r) ≡ laid_out (set ps w p) r
unfolding laid_out
laid-set ps w p r fit h = rw (length-set ps w p) (first-set ps (length ps) w p r fit (omega arith) h)

pub laid_more : (ps : List Part) (p : Part) (r : List Float) → stored (length ps) p (laid_out ps r) ≡ laid_out (ps ++ (p ∷ [])) r
unfolding laid_out
laid_more ps p r =
    sym
    (rw (length-append ps (p ∷ []))
    (turns_more (λ i. stored i (part_at (ps ++ (p ∷ [])) i)) (length ps) r
    ∙ ap (λ q. stored (length ps) q (turns (length ps) (λ i. stored i (part_at (ps ++ (p ∷ [])) i)) r)) (get_or_at ps p [] _ (length ps) refl)
    ∙ ap (stored (length ps) p) (turns_same (λ i. stored i (part_at (ps ++ (p ∷ [])) i)) (λ i. stored i (part_at ps i)) (length ps) (λ i x b. ap (λ q. stored i q x) (get_or-append ps (p ∷ []) _ i b)) r)))

-- laid out over a list that is no longer, it is as if that had not been there
pub laid-over : (ps qs : List Part) (r : List Float) → length qs ≤ most_parts → length ps ≤ length qs → laid_out qs (laid_out ps r) ≡ laid_out qs r
unfolding laid_out
laid-over ps qs r fit h = go (length ps) h
  where
    go : (k : ℕ) → k ≤ length qs → first_stored qs (length qs) (first_stored ps k r) ≡ first_stored qs (length qs) r
    go zero b = unfold turns in refl
    go (suc k) b = ap (first_stored qs (length qs)) (stored_next ps k r) ∙ first-absorbs qs (length qs) k (part_at ps k) (first_stored ps k r) fit b ∙ go k (omega arith)

-- ---- reading the parts back

pub length-in : (n : ℕ) (r : List Float) → length (parts_in n r) ≡ n
unfolding parts_in
length-in n r = length-table (λ i. stored_at r i) n

pub part_in : (n i : ℕ) (r : List Float) → i < n → part_at (parts_in n r) i ≡ stored_at r i
unfolding parts_in
part_in n i r h = get_d-table (λ i. stored_at r i) n i _ h

pub in-laid : (ps : List Part) (r : List Float) → length ps ≤ most_parts → PartRoom r → parts_in (length ps) (laid_out ps r) ≡ ps
unfolding laid_out
in-laid ps r fit room =
    ext_get_or (record { lo = nan; hi = nan; value = nan; error = nan }) (parts_in (length ps) (laid_out ps r)) ps (length-in (length ps) (laid_out ps r))
    (λ i h.
    let b : i < length ps = omega (arith, length-in (length ps) (laid_out ps r)) in
    part_in (length ps) i (laid_out ps r) b ∙ read_first ps (length ps) i r fit b room)

-- laying out what stands there changes nothing
pub laid_in : (n : ℕ) (r : List Float) → laid_out (parts_in n r) r ≡ r
unfolding laid_out
laid_in n r = go (length (parts_in n r)) (omega (arith, length-in n r))
  where
    go : (k : ℕ) → k ≤ n → first_stored (parts_in n r) k r ≡ r
    go zero b = unfold turns in refl
    go (suc k) b = stored_next (parts_in n r) k r ∙ ap (stored k (part_at (parts_in n r) k)) (go k (omega arith)) ∙ ap (λ p. stored k p r) (part_in n k r b) ∙ store_same k r

-- a run of the room, as a field of its parts
pub run_in : (g : Part → Float) (a n : ℕ) (r : List Float) → ((i : ℕ) → g (stored_at r i) ≡ r ‼ (a + i)) → g (record { lo = nan; hi = nan; value = nan; error = nan }) ≡ nan → a + n ≤ length r
    → take (a + n - a) (drop a r) ≡ map g (parts_in n r)
run_in g a n r at none fit =
    let few : a + n - a ≡ n = omega arith in
    let left : length (take n (drop a r)) ≡ n = length-take-le n (drop a r) (simp length-drop (omega arith)) in
    let right : length (map g (parts_in n r)) ≡ n = length-map (parts_in n r) g ∙ length-in n r in
    rw few
    (ext_get_or nan (take n (drop a r)) (map g (parts_in n r)) (left ∙ sym right)
    (λ i h.
    let b : i < n = omega arith in
    get_or-take n (drop a r) i nan b ∙ get_or-drop a r i nan ∙ sym (at i) ∙ ap g (sym (part_in n i r b)) ∙ sym (get_or-map g (parts_in n r) i _) ∙ ap (get_or (map g (parts_in n r)) i) none))

-- ---- a bisection in place: the last of the parts goes to w, the halves to the end

module _ (ps : List Part) (w : ℕ) (fit : length ps < most_parts) (here : w < length ps) where
  last-moves : set ps w (part_at ps (length ps - 1)) ≡ without w ps ++ (part_at ps (length ps - 1) ∷ [])
  last-moves =
      let m : ℕ = length ps - 1 in
      let z : Part = part_at ps m in
      let count : length ps ≡ suc m = omega arith in
      let whole : ps ≡ take m ps ++ (z ∷ []) = sym (take-length ps) ∙ ap (λ n. take n ps) count ∙ take-suc ps m _ (omega arith) in
      let front : length (take m ps) ≡ m = length-take-le m ps (omega arith) in
      ap (λ l. set l w z) whole
      ∙ ⊎_elim
      (λ e. rw e (set_at (take m ps) z [] z m front ∙ ap (λ l. l ++ (z ∷ [])) (sym (set_out (take m ps) m z (omega arith)))))
      (λ b. set-append_left (take m ps) (z ∷ []) w z (omega arith))
      (eq-or-lt_of_le {n = w} {m = m} (omega arith))

  pub laid-bisected : (left right : Part) (r : List Float)
      → stored (length ps) right (stored (length ps - 1) left (stored w (part_at ps (length ps - 1)) (laid_out ps r))) ≡ laid_out (without w ps ++ (left ∷ right ∷ [])) r
  laid-bisected left right r =
      let m : ℕ = length ps - 1 in
      let z : Part = part_at ps m in
      let ys : List Part = without w ps in
      let few : length ys ≡ m = length-set (take m ps) w z ∙ length-take-le m ps (omega arith) in
      let moved : stored w z (laid_out ps r) ≡ laid_out (ys ++ (z ∷ [])) r = laid-set ps w z r (omega arith) here ∙ ap (λ l. laid_out l r) last-moves in
      let first : stored m left (laid_out (ys ++ (z ∷ [])) r) ≡ laid_out (ys ++ (left ∷ [])) r =
      laid-set (ys ++ (z ∷ [])) m left r (simp length-append (omega arith)) (simp length-append (omega arith)) ∙ ap (λ l. laid_out l r) (set_at ys z [] left m few) in
      let count : length ps ≡ length (ys ++ (left ∷ [])) = simp length-append (omega arith) in
      ap (λ l. stored (length ps) right (stored m left l)) moved
      ∙ ap (stored (length ps) right) first
      ∙ ap (λ k. stored k right (laid_out (ys ++ (left ∷ [])) r)) count
      ∙ laid_more (ys ++ (left ∷ [])) right r
      ∙ ap (λ l. laid_out l r) (append_assoc ys (left ∷ []) (right ∷ []))

-- the same over the first n parts of a room
pub replaced-in : (n w : ℕ) (left right : Part) (r : List Float) → w < n → n < most_parts
    → stored n right (stored (n - 1) left (stored w (stored_at r (n - 1)) r)) ≡ laid_out (without w (parts_in n r) ++ (left ∷ right ∷ [])) r
replaced-in n w left right r here fit =
    let few = length-in n r in
    ap (λ l. stored n right (stored (n - 1) left l)) (ap₂ (stored w) (sym (part_in n (n - 1) r (omega arith))) (sym (laid_in n r)))
    ∙ ap (λ k. stored k right (stored (k - 1) left (stored w (part_at (parts_in n r) (k - 1)) (laid_out (parts_in n r) r)))) (sym few)
    ∙ laid-bisected (parts_in n r) w (omega arith) (omega arith) left right r
