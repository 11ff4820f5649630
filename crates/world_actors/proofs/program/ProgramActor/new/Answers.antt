use Rattle.std.proofs.Common.{◌≡◌, ℕ, List, [], Option, Some, None, refl, ap, sym, ◌∙◌, subst, arith, rules}
use Rattle.std.specs.Prelude.{replicate, reverse, slice_get}
use Rattle.code_execution.specs.Statuses.{Progress}
use Rattle.code_form.specs.Code.{Stuck, allocations_of, begins, code, entered, sizes}
use Rattle.code_form.specs.Form.{Block, Function, Image, image_of}
use Rattle.world_actors.specs.Seats.{IsPlaced, begin}
use Rattle.world_actors.specs.declared.program.Mode.TheVariants as m
use Rattle.world_semantics.specs.declared.hold.Hold.{Hold}
use Rattle.world_actors.proofs.program.ProgramActor.new.Goals as goal

begun : (image : Image) (base limit mover size : ℕ) (at : Progress) (holds : List (Option Hold)) (words : List ℕ) → at ≡ record { image = image; core = (code image).start } → holds ≡ replicate 4 None
    → size ≡ image.piece → words ≡ replicate size 0 → record { setting = record { size = size; base = base; limit = limit; mover = mover; image = at.image }; core = at.core; holds = holds; mode = m.Ready; words = words; completed = 0 } ≡ begin image base limit mover
begun image base limit mover size at holds words a b e w =
    let all : words ≡ replicate image.piece 0 = w ∙ ap (λ n. replicate n 0) e in
    λ i. record { setting = record { size = e i; base = base; limit = limit; mover = mover; image = (a i).image }; core = (a i).core; holds = b i; mode = m.Ready; words = all i; completed = 0 }

none_yet : (g : Function) (b : Option Block) → allocations_of (elim b [ None ↦ Stuck [] [] | Some b ↦ entered g [] None b [] [] [] ]) ≡ []
none_yet g None = refl
none_yet g (Some b) = refl

-- no allocation was made yet
nothing_made : (f : Option Function) → allocations_of (begins f) ≡ []
nothing_made None = refl
nothing_made (Some g) = none_yet g (slice_get g.blocks 0)

placed_none : (size base : ℕ) (image : Image) (at : Progress) (items : List ℕ) → at ≡ record { image = image; core = (code image).start } → items ≡ [] → IsPlaced size base (sizes (allocations_of at.core)) (reverse items) base
placed_none size base image at items a e =
    let none : sizes (allocations_of at.core) ≡ [] = ap (λ (y : Progress). sizes (allocations_of y.core)) a ∙ ap sizes (nothing_made (slice_get image.functions 0)) in
    subst (λ ns. IsPlaced size base ns (reverse items) base) (sym none) (subst (λ fs. IsPlaced size base [] fs base) (sym (ap reverse e)) refl)

pub invariant_of-result : goal.invariant_of-result
invariant_of-result c =
    record {
      some = c.cells-size.ensures.some;
      wide = sym c.in_ok-from_elem-2.field-0.ok.0 ∙ c.in_ok-from_elem-2.ensures.len;
      low = omega arith;
      room = c.requires.0;
      small = c.requires.1;
      placed = placed_none c.cells-size.result c.args.base (image_of c.args.image.now) c.in_ok-new.field-0 c.new-2.result.items c.in_ok-new.ensures c.new-2.ensures.items;
      waits = tt;
    }

pub returns : goal.returns
returns c =
    let holds : c.in_ok-from_elem.field-0.items ≡ replicate 4 None = search rules in
    let words : c.in_ok-from_elem-2.field-0.items ≡ replicate c.cells-size.result 0 = search rules in
    begun (image_of c.args.image.now) c.args.base c.args.limit c.args.mover c.cells-size.result c.in_ok-new.field-0 c.in_ok-from_elem.field-0.items c.in_ok-from_elem-2.field-0.items c.in_ok-new.ensures holds c.cells-size.ensures.cells words
