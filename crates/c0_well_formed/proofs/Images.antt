-- The image of a well-typed program is verified.
use Rattle.std.proofs.Common.{◌∙◌}
use Rattle.lower_tables.specs.Gathered.{singles_of}
use Rattle.lower.specs.Lowered.{lowered}
use Rattle.middle_form.specs.Form.{Program}
use Rattle.middle_form.specs.Scoped as scoped
use Rattle.scope_placement.specs.Placed.{placed_program}
use Rattle.scope_placement.proofs.Disciplined.{always_scoped}
use Rattle.scope_placement.proofs.Formed.{stays_guarded, stays_well_formed}
use Rattle.guard_hoisting.specs.Hoisted.{hoisted_program}
use Rattle.guard_hoisting.proofs.Hoists.{stays_scoped}
use Rattle.guard_hoisting.proofs.Same as hoisting
use Rattle.prefetch_pass.specs.Prefetched.{prefetched_program}
use Rattle.prefetch_pass.proofs.Same as hints
use Rattle.prefetch_pass.proofs.Scopes as hinting
use Rattle.codegen.proofs.WellFormed.{verified}
use Rattle.c0_well_formed.specs.Laws.{ImagesAreVerified}
use Rattle.c0_well_formed.proofs.Functions.{lowered_ok}
use Rattle.c0_well_formed.proofs.GuardedFunctions.{lowered_guarded}

pub images_ok : ImagesAreVerified
images_ok checks cells typed fits =
    let code : Program = lowered (singles_of typed) checks typed in
    let with_scopes : scoped.Program = placed_program code in
    let hoisted : scoped.Program = hoisted_program with_scopes in
    verified cells (prefetched_program cells hoisted)
    (hints.stays_well_formed cells hoisted ∙ (hoisting.stays_well_formed with_scopes ∙ (stays_well_formed code ∙ lowered_ok checks typed fits)))
    (hints.stays_guarded cells hoisted ∙ (hoisting.stays_guarded with_scopes ∙ (stays_guarded code ∙ lowered_guarded checks typed fits)))
    (hinting.stays_scoped cells hoisted (stays_scoped with_scopes (always_scoped code)))
