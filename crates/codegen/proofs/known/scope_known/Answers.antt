use Rattle.std.proofs.Common.{◌∙◌, List, [], ◌∷◌, ◌++◌, ap}
use Rattle.std.specs.Prelude.{map, reverse}
use Rattle.code_form.specs.Known.{Knows, KnownShut}
use Rattle.middle_form.specs.ScopedViews.{scoped_code_of, scoped_function_of}
use Rattle.codegen.specs.declared.known.Knows.{Knows as RustKnows}
use Rattle.codegen.specs.Building.{known_back, knows_of}
use Rattle.codegen.proofs.Emits.{map_reverse}
use Rattle.codegen.proofs.ScopeFacts.{whole_turned}
use Rattle.codegen.proofs.known.scope_known.Goals as goal

pub returns : goal.returns
returns c =
    ap (map knows_of) c.reverse.ensures.items ∙ map_reverse knows_of c.note.new.known.items
    ∙ ap reverse (c.in_ok-note.ensures ∙ ap (λ (l : List Knows). l ++ KnownShut ∷ [])
    (c.in_ok-follow.ensures.added ∙ ap (λ (l : List RustKnows). map knows_of l ++ known_back c.args.scope (scoped_code_of c.args.function.now.body) KnownShut) c.new-known.ensures.items))
    ∙ whole_turned c.args.scope (scoped_function_of c.args.function.now)
