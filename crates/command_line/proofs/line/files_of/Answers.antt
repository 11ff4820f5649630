use Rattle.std.proofs.Common.{◌≡◌, ◌∙◌, ◌++◌, Bor, List, Some, ap, map, sym, ℕ}
use Rattle.std.specs.Prelude.{codes}
use Rattle.clap.specs.Words.{found_of}
use Rattle.command_line.proofs.Found.{all_are}
use Rattle.command_line.proofs.line.files_of.Goals as goal

pub returns-in_default : goal.returns-in_default
returns-in_default c = λ e. c.in_default.ensures ∙ sym (all_are (found_of c.args.matches.now) (codes "file"))

pub returns-in-Ok : goal.returns-in-Ok
returns-in-Ok c =
    let copied : c.extend_from_slice.new.self.items ≡ c.in-Some.named.now = c.in-Ok.ensures.items ∙ ap (λ (fs : List (Bor (List ℕ))). fs ++ c.in-Some.named.now) c.new-files.ensures.items in
    ap (λ (fs : List (Bor (List ℕ))). Some (map (λ f. f.now) fs)) copied ∙ c.in-Some.ensures ∙ sym (all_are (found_of c.args.matches.now) (codes "file"))
