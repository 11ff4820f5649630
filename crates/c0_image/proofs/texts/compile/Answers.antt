use Rattle.std.proofs.Common.{◌≡◌, ℕ, true, Some, None, refl, ap, sym, ◌∙◌, subst}
use Rattle.std.proofs.lemmas.Result.{err_from_is_err_and}
use Rattle.cells.specs.Pieces.{cells_in}
use Rattle.c0_syntax.specs.Levels.{has_loops}
use Rattle.c0_typed.specs.Meaning.{mean}
use Rattle.c0_typed.specs.Typing.{FitsProgram}
use Rattle.c0_typed.specs.Views.{program_of}
use Rattle.cells.proofs.Pieces.{is_a_piece}
use Rattle.code_form.specs.Counts.{has_few_items}
use Rattle.code_form.specs.Form.{Image, image_of}
use Rattle.code_form.specs.declared.form.Image.{Image as RustImage}
use Rattle.middle_form.specs.Form as m
use Rattle.middle_form.specs.Scoped as s
use Rattle.middle_form.specs.ScopedMeaning.{scoped_means}
use Rattle.middle_form.specs.Views.{program_of as code_of}
use Rattle.scope_placement.specs.Placed.{placed_program}
use Rattle.guard_hoisting.specs.Hoisted.{hoisted_program}
use Rattle.prefetch_pass.specs.Prefetched.{prefetched_program}
use Rattle.codegen.specs.Correct.{IsSafe, Keeps}
use Rattle.codegen.specs.Generated.{generated}
use Rattle.scope_verifier_laws.specs.Faults.{fault_of}
use Rattle.c0_well_formed.specs.Images.{image_of_tree}
use Rattle.c0_well_formed.specs.Laws.{IsConsistent}
use Rattle.c0_image.specs.Compiled.{IsCompiled}
use Rattle.c0_image.specs.Correct.{Behaves}
use Rattle.c0_image.proofs.Composed.{behaves, safe}
use Rattle.c0_image.proofs.texts.compile.Goals as goal

pub returns-in_err-typed-clause-every : goal.returns-in_err-typed-clause-every
returns-in_err-typed-clause-every c = λ p w.
    let q = err_from_is_err_and c.from_residual.result c.from_residual.ensures.1 in
    rw (q.1, q.2) (c.in_err-typed.ensures.every p w)

pub lower-requires : goal.lower-requires
lower-requires c =
    let t = c.in_ok-typed.ensures.typed in
    c.elaborated.ensures t.program (program_of c.in_ok-typed.typed) t.rules

pub verified-requires : goal.verified-requires
verified-requires c =
    let t = c.in_ok-typed.ensures.typed in
    let fits : FitsProgram (program_of c.in_ok-typed.typed) = c.elaborated.ensures t.program (program_of c.in_ok-typed.typed) t.rules in
    let made : image_of c.in_ok-image.image ≡ image_of_tree c.args.checks (cells_in c.args.piece) c.in_ok-typed.typed =
    c.in_ok-image.ensures.image
    ∙ ap (generated (cells_in c.args.piece)) (c.in_ok-scoped.ensures ∙ ap (prefetched_program (cells_in c.args.piece)) (c.in_ok-hoisted.ensures ∙ ap hoisted_program (c.in_ok-placed.ensures ∙ ap placed_program c.in_ok-middle.ensures.exact))) in
    subst (λ (C : Image). fault_of C ≡ None) (sym made)
    (c.images_are_accepted.ensures c.args.checks (cells_in c.args.piece) c.in_ok-typed.typed fits)

pub returns-clause-compiled : goal.returns-clause-compiled
returns-clause-compiled c =
    let t = c.in_ok-typed.ensures.typed in
    let fits : FitsProgram (program_of c.in_ok-typed.typed) = c.elaborated.ensures t.program (program_of c.in_ok-typed.typed) t.rules in
    let program = program_of c.in_ok-typed.typed in
    let code : m.Program = code_of c.in_ok-middle.middle in
    let placed : s.Program = placed_program code in
    let hoisted : s.Program = hoisted_program placed in
    let with_scopes : s.Program = prefetched_program (cells_in c.args.piece) hoisted in
    let image : Image = image_of c.in_ok-image.image in
    let generates : image ≡ generated (cells_in c.args.piece) with_scopes = c.in_ok-image.ensures.image ∙ ap (generated (cells_in c.args.piece)) (c.in_ok-scoped.ensures ∙ ap (prefetched_program (cells_in c.args.piece)) (c.in_ok-hoisted.ensures ∙ ap hoisted_program c.in_ok-placed.ensures)) in
    let made : image ≡ image_of_tree c.args.checks (cells_in c.args.piece) c.in_ok-typed.typed = generates ∙ ap (λ (p : m.Program). generated (cells_in c.args.piece) (prefetched_program (cells_in c.args.piece) (hoisted_program (placed_program p)))) c.in_ok-middle.ensures.exact in
    let same : (n : ℕ) → scoped_means with_scopes n ≡ Some (mean program c.args.checks n) =
    λ n. c.prefetched_means_the_same.ensures (cells_in c.args.piece) hoisted (c.hoisted_is_scoped.ensures placed (c.placed_is_scoped.ensures code)) n
    ∙ (c.hoisted_means_the_same.ensures placed (c.placed_is_scoped.ensures code) n ∙ (c.placed_means_the_same.ensures code n ∙ c.in_ok-middle.ensures.same n)) in
    let is_safe : IsSafe with_scopes = safe program c.args.checks with_scopes same in
    let few : has_few_items (image_of_tree c.args.checks (cells_in c.args.piece) c.in_ok-typed.typed) ≡ true = subst (λ (C : Image). has_few_items C ≡ true) made c.in_ok-image.ensures.few in
    subst (λ (i : RustImage). IsCompiled (has_loops c.args.level) c.args.text.now c.args.checks (cells_in c.args.piece) (image_of i)) (sym c.in_ok-verified.ensures.same) (record {
      program = program;
      typed = c.in_ok-typed.ensures.typed;
      only = λ other w. sym (c.in_ok-typed.ensures.every other w);
      tree = c.in_ok-typed.typed;
      read_as = refl;
      made = made;
      behaves = behaves program c.args.checks with_scopes image same (subst (Keeps with_scopes) (sym generates) (c.generated_keeps_the_meaning.ensures (cells_in c.args.piece) with_scopes is_safe));
      covered = c.in_ok-verified.ensures.covered;
      verified = c.in_ok-verified.ensures.verified;
      consistent = subst IsConsistent (sym made) (c.images_are_consistent.ensures c.args.checks (cells_in c.args.piece) c.in_ok-typed.typed (is_a_piece c.args.piece) fits few);
    })

pub returns-clause-every : goal.returns-clause-every
returns-clause-every c = λ p w.
    let program = program_of c.in_ok-typed.typed in
    let code : m.Program = code_of c.in_ok-middle.middle in
    let placed : s.Program = placed_program code in
    let hoisted : s.Program = hoisted_program placed in
    let with_scopes : s.Program = prefetched_program (cells_in c.args.piece) hoisted in
    let image : Image = image_of c.in_ok-image.image in
    let generates : image ≡ generated (cells_in c.args.piece) with_scopes = c.in_ok-image.ensures.image ∙ ap (generated (cells_in c.args.piece)) (c.in_ok-scoped.ensures ∙ ap (prefetched_program (cells_in c.args.piece)) (c.in_ok-hoisted.ensures ∙ ap hoisted_program c.in_ok-placed.ensures)) in
    let same : (n : ℕ) → scoped_means with_scopes n ≡ Some (mean program c.args.checks n) =
    λ n. c.prefetched_means_the_same.ensures (cells_in c.args.piece) hoisted (c.hoisted_is_scoped.ensures placed (c.placed_is_scoped.ensures code)) n
    ∙ (c.hoisted_means_the_same.ensures placed (c.placed_is_scoped.ensures code) n ∙ (c.placed_means_the_same.ensures code n ∙ c.in_ok-middle.ensures.same n)) in
    let is_safe : IsSafe with_scopes = safe program c.args.checks with_scopes same in
    let kept : Behaves program c.args.checks image =
    behaves program c.args.checks with_scopes image same (subst (Keeps with_scopes) (sym generates) (c.generated_keeps_the_meaning.ensures (cells_in c.args.piece) with_scopes is_safe)) in
    subst (λ (i : RustImage). Behaves p c.args.checks (image_of i)) (sym c.in_ok-verified.ensures.same)
    (subst (λ q. Behaves q c.args.checks image) (c.in_ok-typed.ensures.every p w) kept)
