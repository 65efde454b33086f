-- Lines of any words: how long they can be, and how one is put word by word. One idea: `Rest` says of the words still to be put that putting their line gives the whole. Assumes nothing.
use Prim.Native.Nat.{ℕ, ◌+◌, ◌-◌, ◌≤◌, ◌<◌}
use native.Mathlib.Numerals.{add-one}
use native.Mathlib.Omega.{arith}
use mathlib.Core.Path.{◌≡◌, refl, sym, ap, ◌∙◌}
use mathlib.Core.List.{List, [], ◌∷◌, ◌++◌, map, append_assoc}
use lib.Dec.{lit≤}
use lib.ListN.{length, drop, length-append, length-drop, drop_of_length-le}
use lib.Seq.{drop-cons}
use Rattle.floats.proofs.TableLaws.{length-table, get_d-table}
use Rattle.lines.specs.Lines.{Word, number, text, digits, width_to, width_of, text_of, widest_of, behind, line_of, longest_of, kinds_of, kind_at, word_at, words_at, put_at}
use Rattle.outcome.specs.declared.Outcome.{Outcome}
use Rattle.sheet.specs.Reading.{number_of, index_of}
use Rattle.sheet.specs.declared.file.FileRefusal.{FileRefusal}
use Rattle.lines.specs.Fields.{fields_of, longest, file_line_of}
use Rattle.lines.specs.declared.words.Kind.{Kind}
use Rattle.lines.specs.declared.words.Kind.TheVariants.{Decimal, Hex}
use Rattle.lines.proofs.DigitLaws.{length-word, width-most}
use Rattle.lines.proofs.PutLaws.{length-put, put-none, put-more}

-- ---- how long

-- no word takes more than its kind's room
pub text-most : (k : Kind) (n d : ℕ) → length (text_of k n ++ (d ∷ [])) ≤ widest_of k
text-most Decimal n d = rw (length-word 10 (width_of n) n d) (omega (arith, width-most 19 n))
text-most Hex n d = rw (length-word 16 16 n d) (lit≤ tt)

-- no line is longer than the longest of its kinds
pub line-length : (ws : List Word) → length (line_of ws) ≤ longest_of (kinds_of ws)
unfolding line_of
line-length [] = lit≤ tt
line-length (w ∷ ws) = simp length-append (omega (arith, line-length ws, simp length-append at (text-most w.kind w.value (behind (length ws)))))

-- and one is as long: that of the largest numbers
pub longest-line : (ks : List Kind) → length (line_of (map (λ k. record { kind = k; value = 0xffffffffffffffff }) ks)) ≡ longest_of ks
unfolding line_of digits width_to
longest-line [] = refl
longest-line (Decimal ∷ ks) = simp length-append (omega (arith, longest-line ks))
longest-line (Hex ∷ ks) = simp length-append (omega (arith, longest-line ks))

-- ---- word by word

-- the words ws are still to be put, at `next` into `out`: there is room for their line, it ends at `end`, and with it the buffer is `whole`
pub record Rest (end : ℕ) (whole : List ℕ) (ws : List Word) (next : ℕ) (out : List ℕ) : Type 0 where
  pub room : next + longest_of (kinds_of ws) ≤ length out
  pub ends : next + length (line_of ws) ≡ end
  pub gives : put_at next (line_of ws) out ≡ whole

module _ {end : ℕ} {whole : List ℕ} where
  pub rest_more : {w : Word} {ws : List Word} {next next' : ℕ} {out out' : List ℕ} → Rest end whole (w ∷ ws) next out → next' ≡ next + length (text_of w.kind w.value ++ (behind (length ws) ∷ []))
      → out' ≡ put_at next (text_of w.kind w.value ++ (behind (length ws) ∷ [])) out → Rest end whole ws next' out'
  unfolding line_of
  rest_more {w} {ws} {next} {next'} {out} {out'} r e h =
      let put : List ℕ = text_of w.kind w.value ++ (behind (length ws) ∷ []) in
      let most = text-most w.kind w.value (behind (length ws)) in
      let whole-line : text_of w.kind w.value ++ (behind (length ws) ∷ line_of ws) ≡ put ++ line_of ws = sym (append_assoc (text_of w.kind w.value) (behind (length ws) ∷ []) (line_of ws)) in
      let same : length out' ≡ length out = ap length h ∙ length-put next put out (omega (arith, r.room)) in
      record {
        room = omega (arith, r.room);
        ends = omega (arith, r.ends, ap length whole-line, length-append put (line_of ws));
        gives = rw (h, e, put-more next put (line_of ws) out (omega (arith, r.room)), ← whole-line) r.gives;
      }

  pub rest-none : {next : ℕ} {out : List ℕ} → Rest end whole [] next out → (next ≡ end) × (out ≡ whole)
  unfolding line_of
  rest-none {next} {out} r = (omega (arith, r.ends), sym (put-none next out) ∙ r.gives)

-- the words of some values from the t-th on
module _ (values patterns : List ℕ) where
  pub words-next : (t : ℕ) → t < length values → drop t (words_at values patterns) ≡ word_at values patterns t ∷ drop (t + 1) (words_at values patterns)
  words-next t h =
      let l : t < length (words_at values patterns) = rw (length-table (word_at values patterns) (length values)) h in
      let d = word_at values patterns t in
      drop-cons (words_at values patterns) t d l ∙ rw (get_d-table (word_at values patterns) (length values) t d h, add-one t)

  pub words-end : (t : ℕ) → length values ≤ t → drop t (words_at values patterns) ≡ []
  words-end t h = drop_of_length-le (words_at values patterns) {i = t} (rw (length-table (word_at values patterns) (length values)) h)

  pub room_next : (t : ℕ) → t < length values → longest_of (kinds_of (drop t (words_at values patterns))) ≡ widest_of (kind_at patterns t) + longest_of (kinds_of (drop (t + 1) (words_at values patterns)))
  room_next t h = ap (λ ws. longest_of (kinds_of ws)) (words-next t h)

  -- where the words from the t-th on have room, it and the byte behind it have
  pub word-room : (t at n v d : ℕ) → t < length values → at + longest_of (kinds_of (drop t (words_at values patterns))) ≤ n → at + length (text_of (kind_at patterns t) v ++ (d ∷ [])) ≤ n
  word-room t at n v d h room = omega (arith, room, room_next t h, text-most (kind_at patterns t) v d)

  -- how many words are left behind word t
  pub left-next : (t : ℕ) → length (drop (t + 1) (words_at values patterns)) ≡ length values - 1 - t
  left-next t = length-drop (t + 1) (words_at values patterns) ∙ rw (length-table (word_at values patterns) (length values)) (omega arith)

-- ---- the two kinds of line

pub result-length : (i : ℕ) (o : Outcome) → length (line_of (fields_of i o)) ≤ longest
result-length i o = line-length (fields_of i o)

pub file-line-length : (f : FileRefusal) → length (file_line_of f) ≤ longest
unfolding file_line_of text
file-line-length f = simp length-append (omega (arith, line-length (number (number_of f) ∷ number (index_of f) ∷ [])))
