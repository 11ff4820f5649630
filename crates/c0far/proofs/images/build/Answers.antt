use Rattle.std.proofs.Common.{List, ℕ, ap, inl, inr, refl, rules, subst, sym, ◌≡◌, ◌∙◌, ◌++◌}
use Rattle.std.specs.Prelude.{codes}
use Rattle.code_form.specs.Form.{image_of}
use Rattle.code_form.specs.declared.form.Image.{Image}
use Rattle.image_bytes.specs.Bytes.{image_bytes}
use Rattle.image_bytes.specs.Encodable.{IsEncodable}
use Rattle.command_line.specs.Shell.{compiling_of}
use Rattle.command_files.specs.FileTexts.{HasText, Known}
use Rattle.command_messages.specs.Shown.{newline}
use Rattle.streams.specs.Streams.{Says, Writes}
use Rattle.c0far.proofs.Codes.{after_quiet, code_is_encodable}
use Rattle.c0far.proofs.images.build.Goals as goal

pub encode-requires : goal.encode-requires
encode-requires g c =
    subst (λ (i : Image). IsEncodable (image_of i)) (sym c.image.ensures.same)
    (code_is_encodable c.images_are_encodable.ensures c.args.file.now (compiling_of c.args.compiling) (g.F.Files.holds c.args.files.now c.args.file.now) (image_of c.in-Ok.verified.image) c.in-Ok.ensures.code)

pub returns-in-Err-clause-done : goal.returns-in-Err-clause-done
returns-in-Err-clause-done g c = inr (c.in-Err.ensures.files c.args.target.now, inl (c.in-Err.ensures.refused _ refl))

pub returns-in-Ok-write-clause-done : goal.returns-in-Ok-write-clause-done
returns-in-Ok-write-clause-done g c = inl (record {
  image = image_of c.in-Ok.verified.image;
  code = c.in-Ok.ensures.code;
  written = subst (λ (bytes : List ℕ). HasText (g.F.Files.holds c.write.new.self c.args.target.now) bytes) (c.deref.ensures.value ∙ (c.in-Ok-encode.ensures.written ∙ ap (λ (i : Image). image_bytes (image_of i)) c.image.ensures.same)) c.in-Ok-write.ensures.text;
  status = refl;
  silent = refl;
  quiet = c.in-Ok.ensures.quiet;
})

pub returns-then-is_same-clause-done : goal.returns-then-is_same-clause-done
returns-then-is_same-clause-done g c = inr (
  c.in-Ok.ensures.files c.args.target.now,
  inr (record {
    image = image_of c.in-Ok.verified.image;
    code = c.in-Ok.ensures.code;
    shown = subst (λ (w : Writes). Says w (c.args.target.now ++ (codes ": cannot be written" ++ newline)) 2 c.say_unwritten.result)
        (after_quiet g.E.Stream.contents g.E.Stream.failures c.args.err.now c.code_of.new.err c.say_unwritten.new.err c.in-Ok.ensures.quiet) c.say_unwritten.ensures;
    quiet = refl;
  }),
)

pub returns-in-Err-Cannot-clause-done : goal.returns-in-Err-Cannot-clause-done
returns-in-Err-Cannot-clause-done g c =
    let same : ◌≡◌ {A = Known} (g.F.Files.holds c.write.new.self c.args.target.now) (g.F.Files.holds c.args.files.now c.args.target.now) = search rules in inr (
      same,
      inr (record {
        image = image_of c.in-Ok.verified.image;
        code = c.in-Ok.ensures.code;
        shown = subst (λ (w : Writes). Says w (c.args.target.now ++ (codes ": cannot be written" ++ newline)) 2 c.say_unwritten-in-Err-Cannot.result)
            (after_quiet g.E.Stream.contents g.E.Stream.failures c.args.err.now c.code_of.new.err c.say_unwritten-in-Err-Cannot.new.err c.in-Ok.ensures.quiet) c.say_unwritten-in-Err-Cannot.ensures;
        quiet = refl;
      }),
    )
