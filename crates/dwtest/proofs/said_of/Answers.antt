use Rattle.dwtest.proofs.said_of.Goals as goal

pub returns-in-Exact-clause-parts_after : goal.returns-in-Exact-clause-parts_after
returns-in-Exact-clause-parts_after c = rw (← c.in_ok-way_of.ensures, c.in-Exact.is) c.exact.ensures.parts_after
