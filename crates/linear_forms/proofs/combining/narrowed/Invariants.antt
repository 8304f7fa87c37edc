use Rattle.std.proofs.Common.{◌≡◌, take}
use Rattle.linear_forms.proofs.combining.narrowed.Given as goal

-- the terms so far
abbrev pub invariant-loop-leaf : goal.invariant-loop-leaf
invariant-loop-leaf l = l.terms.items ≡ take l.leaf-index l.form.terms.items
