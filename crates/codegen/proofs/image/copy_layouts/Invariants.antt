use Rattle.std.proofs.Common.{◌≡◌, map, take}
use Rattle.code_form.specs.declared.form.Kind.{Kind}
use Rattle.std.specs.declared.vec.Vec.{Vec}
use Rattle.std.specs.declared.alloc.Global.{Global}
use Rattle.codegen.proofs.image.copy_layouts.Given as goal

abbrev pub invariant-loop-layout : goal.invariant-loop-layout
invariant-loop-layout l = map (λ (x : Vec Kind Global). x.items) l.copies.items ≡ map (λ (x : Vec Kind Global). x.items) (take l.layout-index l.layouts)
