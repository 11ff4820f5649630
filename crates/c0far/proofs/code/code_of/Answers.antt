use Rattle.std.proofs.Common.{List, ℕ, subst, sym}
use Rattle.std.proofs.lemmas.Result.{IfErr-weaker}
use Rattle.command_files.specs.FileTexts.{HasText}
use Rattle.c0far.proofs.code.code_of.Goals as goal

pub returns-in-Ok-clause-refused : goal.returns-in-Ok-clause-refused
returns-in-Ok-clause-refused g c =
    let held = g.F.Files.holds c.args.files.now c.args.file.now in
    let has = subst (λ (bytes : List ℕ). HasText held bytes) (sym c.deref.ensures.value) c.in-Ok.ensures.text in
    IfErr-weaker c.of_named.result _ _ (λ status h out quiet. h held out has quiet) c.of_named.ensures.refused
