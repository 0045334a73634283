use Rattle.bytes_utils_tests.proofs.cases.split.size_hint.assert_hints.Given as goal

-- `next` of the parts may be called again
abbrev pub invariant-loop-given : goal.invariant-loop-given
invariant-loop-given g l = g.P.Iterator.can_next l.parts
