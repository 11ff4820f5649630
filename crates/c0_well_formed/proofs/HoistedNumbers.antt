-- Where the scopes of loops are opened before them, the code names the numbers that it named.
use Rattle.std.proofs.Common.{◌≤◌, max, List, [], ◌∷◌, ◌++◌, arith, subst, sym}
use Rattle.code_form.specs.declared.form.Kind.{Kind}
use Rattle.middle_form.specs.Form as f
use Rattle.middle_form.specs.Samples as sample
use Rattle.middle_form.specs.Scoped as s
use Rattle.middle_form.specs.Scoped.{plain}
use Rattle.scoped_building.specs.Building.{in_order}
use Rattle.guard_hoisting.specs.Hoisted.{hoisted, most_served}
use Rattle.guard_hoisting.proofs.Hoists.{few_in}
use Rattle.guard_hoisting.proofs.Same.{hoisted_parts}
use Rattle.guard_hoisting.proofs.Tidy.{parts}
use Rattle.c0_well_formed.proofs.CellKinds.{Each, each_append}
use Rattle.c0_well_formed.proofs.Numbers.{CodeNames}
use Rattle.c0_well_formed.proofs.ScopedNumbers.{ScopedNames}

-- ---- the parts of code

each_apart : (xs ys : List f.Code) → Each CodeNames (xs ++ ys) → Each CodeNames xs × Each CodeNames ys
each_apart [] ys h = (tt, h)
each_apart (x ∷ xs) ys h = let q = each_apart xs ys h.1 in ((h.0, q.0), q.1)

ordered : (cs : List f.Code) → Each CodeNames cs → CodeNames (sample.in_order cs)
ordered [] h = tt
ordered (x ∷ rest) h = (h.0, ordered rest h.1)

in_parts : (cs : List f.Code) → CodeNames (sample.in_order cs) → Each CodeNames cs
in_parts [] h = tt
in_parts (x ∷ rest) h = (h.0, in_parts rest h.1)

to_parts : (a : f.Code) → CodeNames a → Each CodeNames (parts a)
to_parts f.Nothing h = tt
to_parts (f.Do x) h = (h, tt)
to_parts (f.Load to r off disp) h = (tt, tt)
to_parts (f.Store r off disp from) h = (tt, tt)
to_parts (f.Call to i args) h = (tt, tt)
to_parts (f.Fail a) h = (tt, tt)
to_parts (f.Then a b) h = each_append CodeNames (parts a) (parts b) (to_parts a h.0) (to_parts b h.1)
to_parts (f.Choose r a b) h = ((ordered (parts a) (to_parts a h.0), ordered (parts b) (to_parts b h.1)), tt)
to_parts (f.Loop test r body) h = ((ordered (parts test) (to_parts test h.0), ordered (parts body) (to_parts body h.1)), tt)
to_parts (f.Block a) h = (ordered (parts a) (to_parts a h), tt)
to_parts (f.Exit i) h = (tt, tt)

of_parts : (a : f.Code) → Each CodeNames (parts a) → CodeNames a
of_parts f.Nothing h = tt
of_parts (f.Do x) h = h.0
of_parts (f.Load to r off disp) h = tt
of_parts (f.Store r off disp from) h = tt
of_parts (f.Call to i args) h = tt
of_parts (f.Fail a) h = tt
of_parts (f.Then a b) h = let q = each_apart (parts a) (parts b) h in (of_parts a q.0, of_parts b q.1)
of_parts (f.Choose r a b) h = (of_parts a (in_parts (parts a) h.0.0), of_parts b (in_parts (parts b) h.0.1))
of_parts (f.Loop test r body) h = (of_parts test (in_parts (parts test) h.0.0), of_parts body (in_parts (parts body) h.0.1))
of_parts (f.Block a) h = of_parts a (in_parts (parts a) h.0)
of_parts (f.Exit i) h = tt

-- ---- a function

-- its code has the same parts, but for scopes
pub hoisted_names : (ks : List Kind) (a : s.Code) → ScopedNames a → ScopedNames (in_order (hoisted ks a []))
hoisted_names ks a h = of_parts (plain (in_order (hoisted ks a []))) (subst (Each CodeNames) (sym (hoisted_parts ks a [])) (to_parts (plain a) h))

-- it has at most four scopes, where it had no more
pub few_scopes : (g : s.Function) → g.scopes ≤ 4 → max g.scopes (most_served g.kinds g.body []) ≤ 4
few_scopes g l = let x = few_in g.kinds g.body [] in omega (arith, l, x)
