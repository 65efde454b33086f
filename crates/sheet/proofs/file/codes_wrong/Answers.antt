-- Each test is a part of the condition. Assumes nothing.
use borrow.Author.Tests.{lt-ltb, le-ltb}
use Rattle.std.proofs.Common.{rules, inl, inr}
use Rattle.sheet.specs.Reading.{meets}
use Rattle.sheet.proofs.file.codes_wrong.Goals as goal

pub returns-then-e-gt1 : goal.returns-then-e-gt1
unfolding meets
returns-then-e-gt1 c = elim c.if-e-gt1.either [
  | inl h ↦ rw (← c.requires.1, lt-ltb _ _ h) (search rules)
  | inr k ↦ elim k [
    | inl h ↦ rw (← c.requires.1, le-ltb _ _ h.0, lt-ltb _ _ h.1) (search rules)
    | inr h ↦ rw (← c.requires.1, le-ltb _ _ h.0, le-ltb _ _ h.1, lt-ltb _ _ h.2) (search rules)
  ]
]

pub returns-else-e-gt1 : goal.returns-else-e-gt1
unfolding meets
returns-else-e-gt1 c = rw (← c.requires.1, le-ltb _ _ c.if-e-gt1.false.0, le-ltb _ _ c.if-e-gt1.false.1, le-ltb _ _ c.if-e-gt1.false.2, ← c.little_endian.ensures)
