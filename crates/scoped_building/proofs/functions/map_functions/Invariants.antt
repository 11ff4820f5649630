use Rattle.std.proofs.Common.{◌≡◌, Ok, map}
use Rattle.middle_form.specs.Scoped.{Function as ScopedForm}
use Rattle.middle_form.specs.ScopedViews.{scoped_function_of}
use Rattle.scoped_building.proofs.functions.map_functions.Given as goal

abbrev pub invariant-loop-function : goal.invariant-loop-function
invariant-loop-function g l =
    (meant : _ → ScopedForm) → ((f : _) (h : _) → goal.F-post g l.make f (Ok h) → scoped_function_of h ≡ meant f) → map scoped_function_of l.made.items ≡ map meant l.yielded
