use Rattle.std.proofs.Common.{◌≡◌, ap, sym, ◌∙◌, [], ◌∷◌, map, List, ℕ, rules}
use Rattle.c0_grammar_laws.specs.Tokens.{last_first}
use Rattle.c0_syntax.specs.Expressions.{is_type_name}
use Rattle.c0_parser_cursor.proofs.Cursors.{known_after, last_push}
use Rattle.c0_parser_cursor.proofs.type_names.TypeNames.add.Goals as goal

pub invariant_of-self-in_default : goal.invariant_of-self-in_default
invariant_of-self-in_default c =
    let before : List (List ℕ) = last_first [] (map (λ x. x.now) c.self.inside.names.items) in
    let named = ap (λ xs. last_first [] (map (λ x. x.now) xs)) c.in_ok-push.ensures.items ∙ last_push [] c.self.inside.names.items c.args.name in
    let same : c.in_ok-letters.letters.items ≡ c.args.name.now = search (rules) in
    λ n. known_after c.self.inside.known c.insert.new.self before c.in_ok-letters.letters c.in_default.ensures.updates c.self.invariant n ∙ ap (λ z. is_type_name (z ∷ before) n) same ∙ ap (λ z. is_type_name z n) (sym named)

pub returns : goal.returns
returns c = ap (λ xs. last_first [] (map (λ x. x.now) xs)) c.in_ok-push.ensures.items ∙ (last_push [] c.self.inside.names.items c.args.name ∙ ap (λ xs. c.args.name.now ∷ xs) c.self.view_is)
