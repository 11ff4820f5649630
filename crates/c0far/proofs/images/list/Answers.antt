use Rattle.std.proofs.Common.{Bool, List, ℕ, ap, inl, inr, refl, subst, ◌∙◌}
use Rattle.code_form.specs.Form.{image_of}
use Rattle.code_form.specs.declared.form.Image.{Image}
use Rattle.image_listing.specs.Listing.{listing}
use Rattle.command_line.specs.Shell.{Compiling}
use Rattle.c0far.specs.FileCode.{HoldsCode}
use Rattle.c0far.specs.NoCode.{HasNoCode}
use Rattle.streams.specs.Streams.{Says, writes}
use Rattle.c0far.proofs.images.list.Goals as goal

pub returns-in-Err-clause-done : goal.returns-in-Err-clause-done
returns-in-Err-clause-done g c = inr (
    subst (λ (loops : Bool). HasNoCode loops c.args.file.now (g.F.Files.holds c.args.files.now c.args.file.now)
    (writes g.O.Stream.contents g.O.Stream.failures c.args.out.now c.args.out.now) (writes g.E.Stream.contents g.E.Stream.failures c.args.err.now c.code_of.new.err) c.in-Err.status)
    (ap (λ (k : Compiling). k.texts.loops) c.unchecked.ensures) (c.in-Err.ensures.refused _ refl)
    )

pub returns-in-Ok-list_image-clause-done : goal.returns-in-Ok-list_image-clause-done
returns-in-Ok-list_image-clause-done g c = inl (record {
  image = image_of c.in-Ok.verified.image;
  code = subst (λ (k : Compiling). HoldsCode c.args.file.now k (g.F.Files.holds c.args.files.now c.args.file.now) (image_of c.in-Ok.verified.image)) c.unchecked.ensures c.in-Ok.ensures.code;
  shown = subst (λ (lines : List ℕ). Says (writes g.O.Stream.contents g.O.Stream.failures c.args.out.now c.say_code.new.out) lines 0 c.say_code.result)
      (c.in-Ok-list_image.ensures ∙ ap (λ (i : Image). listing (image_of i)) c.image.ensures.same) c.say_code.ensures;
  quiet = c.in-Ok.ensures.quiet;
})
