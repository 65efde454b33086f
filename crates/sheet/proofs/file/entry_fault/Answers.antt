-- Each test is the condition of its refusal, and those before it failed. Assumes nothing.
use Prim.Native.Nat.{ℕ}
use mathlib.Core.Path.{◌≡◌, refl}
use mathlib.Core.Bool.{not}
use mathlib.Core.List.{List}
use lib.Dec.{eqb, ltb}
use lib.ListN.{length}
use borrow.Author.Tests.{lt-ltb, le-ltb, eq-eqb, ne_eqb}
use Rattle.sheet.specs.Contents.{entry_of, body_start, body_end}
use Rattle.sheet.specs.Reading.{due_at, not_rising, meets}
use Rattle.sheet.specs.declared.file.FileRefusal.TheVariants.{Offset, PastEnd, NotRising}
use Rattle.sheet.proofs.file.entry_fault.Goals as goal

offset-is : (file : List ℕ) (i : ℕ) → meets file (Offset i) ≡ not (eqb (body_start (entry_of file i)) (due_at file i))
unfolding meets
offset-is file i = refl

past-end-is : (file : List ℕ) (i : ℕ) → meets file (PastEnd i) ≡ ltb (length file) (body_end (entry_of file i))
unfolding meets
past-end-is file i = refl

not-rising-is : (file : List ℕ) (i : ℕ) → meets file (NotRising i) ≡ not_rising file (entry_of file i)
unfolding meets
not-rising-is file i = refl

pub returns-then-e-due : goal.returns-then-e-due
returns-then-e-due c = rw (← c.codes_wrong.ensures, c.if-codes_wrong.false, offset-is _ _, ← c.requires.1, ← c.requires.2, ne_eqb _ _ c.if-e-due.true)

pub returns-then-body_end-file : goal.returns-then-body_end-file
returns-then-body_end-file c = rw (← c.codes_wrong.ensures, c.if-codes_wrong.false, offset-is _ _, past-end-is _ _, ← c.requires.1, ← c.requires.2, eq-eqb _ _ c.if-e-due.false, ← c.body_end.ensures, lt-ltb _ _ c.if-body_end-file.true)

pub returns-then-not_rising : goal.returns-then-not_rising
returns-then-not_rising c = rw (← c.codes_wrong.ensures, c.if-codes_wrong.false, offset-is _ _, past-end-is _ _, not-rising-is _ _, ← c.requires.1, ← c.requires.2, eq-eqb _ _ c.if-e-due.false, ← c.body_end.ensures, le-ltb _ _ c.if-body_end-file.false, ← c.not_rising.ensures, c.if-not_rising.true)

pub returns : goal.returns
returns c = rw (← c.codes_wrong.ensures, c.if-codes_wrong.false, offset-is _ _, past-end-is _ _, not-rising-is _ _, ← c.requires.1, ← c.requires.2, eq-eqb _ _ c.if-e-due.false, ← c.body_end.ensures, le-ltb _ _ c.if-body_end-file.false, ← c.not_rising.ensures, c.if-not_rising.false)
