-- Each test is the condition of its refusal, and those before it failed; the entries are left to `check_entries`. Assumes nothing.
use borrow.Author.Tests.{lt-ltb, le-ltb}
use Rattle.sheet.specs.Reading.{read_file, first_met, meets}
use Rattle.sheet.proofs.file.check_file.Goals.{then-file-lt-COUNT_BYTES-via-then-file-lt-COUNT_BYTES, then-file-lt-COUNT_BYTES-via-else-file-lt-COUNT_BYTES+then-file-gt-LARGEST, then-count-lt1-via-then-count-lt1, then-count-lt1-via-else-count-lt1+then-count-gt-MOST_ENTRIES}
use Rattle.sheet.proofs.file.check_file.Goals as goal

pub returns-then-file-lt-COUNT_BYTES : goal.returns-then-file-lt-COUNT_BYTES
unfolding read_file first_met meets
returns-then-file-lt-COUNT_BYTES c = elim c.then-file-lt-COUNT_BYTES.branch [
  | then-file-lt-COUNT_BYTES-via-then-file-lt-COUNT_BYTES w ↦ rw (lt-ltb _ _ w.if-file-lt-COUNT_BYTES.true)
  | then-file-lt-COUNT_BYTES-via-else-file-lt-COUNT_BYTES+then-file-gt-LARGEST w ↦ rw (le-ltb _ _ w.if-file-lt-COUNT_BYTES.false, lt-ltb _ _ w.if-file-gt-LARGEST.true)
]

pub returns-then-count-lt1 : goal.returns-then-count-lt1
unfolding read_file first_met meets
returns-then-count-lt1 c = rw (le-ltb _ _ c.if-file-lt-COUNT_BYTES.false, le-ltb _ _ c.if-file-gt-LARGEST.false, ← c.little_endian-count.ensures) (elim c.then-count-lt1.branch [
  | then-count-lt1-via-then-count-lt1 w ↦ rw (lt-ltb _ _ w.if-count-lt1.true)
  | then-count-lt1-via-else-count-lt1+then-count-gt-MOST_ENTRIES w ↦ rw (le-ltb _ _ w.if-count-lt1.false, lt-ltb _ _ w.if-count-gt-MOST_ENTRIES.true)
])

pub returns-then-file-count : goal.returns-then-file-count
unfolding read_file first_met meets
returns-then-file-count c = rw (le-ltb _ _ c.if-file-lt-COUNT_BYTES.false, le-ltb _ _ c.if-file-gt-LARGEST.false, ← c.little_endian-count.ensures, le-ltb _ _ c.if-count-lt1.false, le-ltb _ _ c.if-count-gt-MOST_ENTRIES.false, lt-ltb _ _ c.if-file-count.true)

pub returns : goal.returns
unfolding read_file first_met meets
returns c = rw (le-ltb _ _ c.if-file-lt-COUNT_BYTES.false, le-ltb _ _ c.if-file-gt-LARGEST.false, ← c.little_endian-count.ensures, le-ltb _ _ c.if-count-lt1.false, le-ltb _ _ c.if-count-gt-MOST_ENTRIES.false, le-ltb _ _ c.if-file-count.false) c.check_entries.ensures
