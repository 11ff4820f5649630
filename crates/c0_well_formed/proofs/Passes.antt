-- The image of scoped code behind any passes is accepted.
use Rattle.std.proofs.Common.{◌≡◌, ◌∙◌, ℕ, Bool, true, List, [], ◌∷◌, length, map, refl, sym, subst}
use Rattle.std.specs.Prelude.{All}
use Rattle.c0_typed.specs.Typing.{FitsProgram}
use Rattle.c0_typed.specs.Views.{program_of}
use Rattle.c0_typed.specs.declared.tree.Typed.{Typed}
use Rattle.lower_tables.specs.Gathered.{singles_of}
use Rattle.lower.specs.Lowered.{lowered}
use Rattle.middle_form.specs.Form as f
use Rattle.middle_form.specs.Discipline.{IsScoped}
use Rattle.middle_form.specs.Guarded.{is_guarded_program}
use Rattle.middle_form.specs.Scoped.{Function, Program, plain_program}
use Rattle.middle_form.specs.WellFormed.{is_well_formed}
use Rattle.scope_placement.specs.Placed.{placed_function, placed_program}
use Rattle.scope_placement.proofs.Disciplined.{always_scoped}
use Rattle.scope_placement.proofs.Formed.{stays_guarded, stays_well_formed}
use Rattle.guard_hoisting.specs.Hoisted.{hoisted_function, hoisted_program}
use Rattle.guard_hoisting.proofs.Hoists.{stays_scoped}
use Rattle.guard_hoisting.proofs.Same as hoisting
use Rattle.prefetch_pass.specs.Prefetched.{prefetched_function, prefetched_program}
use Rattle.prefetch_pass.proofs.Same as hints
use Rattle.prefetch_pass.proofs.Scopes as hinting
use Rattle.code_form.specs.Form.{Head}
use Rattle.codegen.specs.Generated.{function_of, generated}
use Rattle.codegen.proofs.WellFormed.{verified}
use Rattle.scope_verifier_laws.specs.Numbers.{is_cell_kind, is_result_kind, names_layout}
use Rattle.scope_verifier_laws.specs.Laws.{NamesItsLayouts, NamesLayouts}
use Rattle.code_verification.specs.Verified.{IsVerified}
use Rattle.c0_well_formed.specs.Passes.{Pass, Hoist, Prefetch, behind}
use Rattle.c0_well_formed.proofs.Functions.{lowered_ok}
use Rattle.c0_well_formed.proofs.GuardedFunctions.{lowered_guarded}
use Rattle.c0_well_formed.proofs.Consistent.{NamesKinds, layouts_consistent, lowered_named}
use Rattle.c0_well_formed.proofs.CellKinds.{Each, each_all}

-- the kinds of a function with scopes name one of so many layouts
abbrev HasKinds : ℕ → Function → Type 0
HasKinds count g = All (λ x. names_layout count x ≡ true) g.kinds × (is_result_kind count g.result ≡ true)

-- scoped code that may become an image, with these texts and layouts
record IsFit (head : Head) (P : Program) : Type 0 where
  formed : is_well_formed (plain_program P) ≡ true
  guarded : is_guarded_program (plain_program P) ≡ true
  scoped : IsScoped P
  same : P.head ≡ head
  kinds : Each (HasKinds (length head.layouts)) P.functions

placed_kinds : (count : ℕ) (gs : List f.Function) → Each (NamesKinds count) gs → Each (HasKinds count) (map placed_function gs)
placed_kinds count [] h = tt
placed_kinds count (g ∷ gs) h = (h.0, placed_kinds count gs h.1)

hoisted_kinds : (count : ℕ) (gs : List Function) → Each (HasKinds count) gs → Each (HasKinds count) (map hoisted_function gs)
hoisted_kinds count [] h = tt
hoisted_kinds count (g ∷ gs) h = (h.0, hoisted_kinds count gs h.1)

hinted_kinds : (pieces count : ℕ) (gs : List Function) → Each (HasKinds count) gs → Each (HasKinds count) (map (prefetched_function pieces) gs)
hinted_kinds pieces count [] h = tt
hinted_kinds pieces count (g ∷ gs) h = (h.0, hinted_kinds pieces count gs h.1)

-- with its scopes placed it is so
placed_fit : (checks : Bool) (typed : Typed) → FitsProgram (program_of typed) → IsFit (lowered (singles_of typed) checks typed).head (placed_program (lowered (singles_of typed) checks typed))
placed_fit checks typed fits =
    let code : f.Program = lowered (singles_of typed) checks typed in
    record {
      formed = stays_well_formed code ∙ lowered_ok checks typed fits;
      guarded = stays_guarded code ∙ lowered_guarded checks typed fits;
      scoped = always_scoped code;
      same = refl;
      kinds = placed_kinds (length code.head.layouts) code.functions (lowered_named checks typed);
    }

-- and behind each pass
passes_fit : (head : Head) (passes : List Pass) (P : Program) → IsFit head P → IsFit head (behind passes P)
passes_fit head [] P h = h
passes_fit head (Hoist ∷ rest) P h =
    passes_fit head rest (hoisted_program P) (record {
      formed = hoisting.stays_well_formed P ∙ h.formed;
      guarded = hoisting.stays_guarded P ∙ h.guarded;
      scoped = stays_scoped P h.scoped;
      same = h.same;
      kinds = hoisted_kinds (length head.layouts) P.functions h.kinds;
    })
passes_fit head (Prefetch pieces ∷ rest) P h =
    passes_fit head rest (prefetched_program pieces P) (record {
      formed = hints.stays_well_formed pieces P ∙ h.formed;
      guarded = hints.stays_guarded pieces P ∙ h.guarded;
      scoped = hinting.stays_scoped pieces P h.scoped;
      same = h.same;
      kinds = hinted_kinds pieces (length head.layouts) P.functions h.kinds;
    })

-- the kinds of its image
image_kinds : (count : ℕ) (gs : List Function) → Each (HasKinds count) gs → Each (NamesLayouts count) (map function_of gs)
image_kinds count [] h = tt
image_kinds count (g ∷ gs) h = (record { kinds = h.0.0; result = h.0.1 }, image_kinds count gs h.1)

pub image_verified : (cells : ℕ) (checks : Bool) (typed : Typed) (passes : List Pass) → FitsProgram (program_of typed) → IsVerified (generated cells (behind passes (placed_program (lowered (singles_of typed) checks typed))))
image_verified cells checks typed passes fits =
    let start = placed_program (lowered (singles_of typed) checks typed) in
    let h = passes_fit (lowered (singles_of typed) checks typed).head passes start (placed_fit checks typed fits) in
    verified cells (behind passes start) h.formed h.guarded h.scoped

pub image_named : (cells : ℕ) (checks : Bool) (typed : Typed) (passes : List Pass) → FitsProgram (program_of typed) → NamesItsLayouts (generated cells (behind passes (placed_program (lowered (singles_of typed) checks typed))))
image_named cells checks typed passes fits =
    let head : Head = (lowered (singles_of typed) checks typed).head in
    let start : Program = placed_program (lowered (singles_of typed) checks typed) in
    let P : Program = behind passes start in
    let h : IsFit head P = passes_fit head passes start (placed_fit checks typed fits) in
    record {
      layouts = subst (λ (d : Head). All (All (λ k. is_cell_kind (length d.layouts) k ≡ true)) d.layouts) (sym h.same) (layouts_consistent checks cells typed);
      functions = subst (λ (d : Head). All (NamesLayouts (length d.layouts)) (map function_of P.functions)) (sym h.same)
          (each_all (NamesLayouts (length head.layouts)) (map function_of P.functions) (image_kinds (length head.layouts) P.functions h.kinds));
    }
