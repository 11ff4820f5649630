use Rattle.std.proofs.Common.{◌≡◌, ◌++◌, ◌∷◌, [], map}
use Rattle.std.proofs.lemmas.Result.{err_from_is_err_and}
use Rattle.std.proofs.lemmas.List.{map_push}
use Rattle.std.specs.declared.vec.Vec.{Vec}
use Rattle.std.specs.declared.alloc.Global.{Global}
use Rattle.code_form.specs.declared.form.Kind.{Kind}
use Rattle.image_reader.specs.Reading.{list_at, layout_at}
use Rattle.image_reader.proofs.Loops.{goes_on, ends, is_done}
use Rattle.image_reader.proofs.lists.layouts_of.Goals as goal

pub returns-in_err-layout : goal.returns-in_err-layout
returns-in_err-layout c =
    let p = err_from_is_err_and c.from_residual-in_err-layout.result c.from_residual-in_err-layout.ensures.1 in
    rw (p.1, p.2) (ends layout_at c.in_err-layout.field-0.0 (map (λ (v : Vec Kind Global). v.items) c.loop.items.items) c.in_ok-count.count c.loop.counter c.loop.rest.now (list_at layout_at c.args.bytes.now) c.loop-test.true c.in_err-layout.ensures c.loop.invariant)

pub loop-preserved : goal.loop-preserved
loop-preserved c =
    let e : map (λ (v : Vec Kind Global). v.items) c.push.new.self.items ≡ map (λ (v : Vec Kind Global). v.items) c.loop.items.items ++ (λ (v : Vec Kind Global). v.items) c.in_ok-layout.layout ∷ [] = rw c.in_ok-push.ensures.items (map_push _ c.loop.items.items c.in_ok-layout.layout) in
    rw e (goes_on layout_at (map (λ (v : Vec Kind Global). v.items) c.loop.items.items) c.in_ok-count.count c.loop.counter c.loop.rest.now ((λ (v : Vec Kind Global). v.items) c.in_ok-layout.layout) c.in_ok-layout.behind.now (list_at layout_at c.args.bytes.now) c.loop-test.true c.in_ok-layout.ensures c.loop.invariant)

pub returns : goal.returns
returns c = rw c.shrink_to_fit.ensures.items (is_done layout_at (map (λ (v : Vec Kind Global). v.items) c.loop.items.items) c.in_ok-count.count c.loop.counter c.loop.rest.now (list_at layout_at c.args.bytes.now) c.loop-test.false c.loop.invariant)
