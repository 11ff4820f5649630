use Rattle.std.proofs.Common.{rules, ◌≡◌, ◌+◌, ◌++◌, ◌∷◌, [], ◌<◌, ◌≤◌, ap, sym, ◌∙◌, arith, drop, length, map, min, string_bytes}
use Rattle.std.proofs.lemmas.List.{append-nil, map-append}
use Rattle.c0_syntax.specs.Views.{name_of, typed_name_of}
use Rattle.c0_rules.specs.Programs.{parameters_from}
use Rattle.c0_types_terms.specs.Terms.{local_of}
use Rattle.c0_types_tables.specs.Views.{resolved_of}
use Rattle.c0_types_terms.specs.declared.typing.Local.{Local}
use Rattle.c0_types_declarations.proofs.HeaderLists.{locals_last, locals_push}
use Rattle.c0_types_declarations.proofs.headers.parameter_locals.Goals as goal

pub returns : goal.returns
returns c =
    let past : min (length c.args.items.now) (length c.args.types.now) ≤ c.loop-i.i = omega (arith, c.min-i-end.ensures, c.loop-i-test.false) in
    let done = map local_of c.loop-i.locals.items in
    sym (append-nil done) ∙ ap (λ z. done ++ z) (sym (locals_last (c.loop-i.i + 1) c.args.items.now c.args.types.now c.loop-i.i past)) ∙ c.loop-i.invariant

pub loop-i-init : goal.loop-i-init
loop-i-init c = ap (λ z. map local_of z ++ parameters_from 1 (map typed_name_of c.args.items.now) (map resolved_of c.args.types.now)) c.new-locals.ensures.items

pub loop-i-preserved : goal.loop-i-preserved
loop-i-preserved c =
    let made : Local = record { name = c.in_ok-clone.field-0; number = c.in-Ok.number; resolved = c.in_ok-duplicate.field-0 } in
    let more : map local_of c.push.new.self.items ≡ map local_of c.loop-i.locals.items ++ local_of made ∷ [] = ap (map local_of) c.in_ok-push.ensures.items ∙ map-append local_of c.loop-i.locals.items (made ∷ []) in
    let in_items : c.loop-i.i < length c.args.items.now = omega (arith, c.min-i-end.ensures, c.loop-i-test.true) in
    let in_types : c.loop-i.i < length c.args.types.now = omega (arith, c.min-i-end.ensures, c.loop-i-test.true) in
    let name : string_bytes c.in_ok-clone.field-0 ≡ name_of c.index-items-i.result.name = search (rules) in
    let number : c.in-Ok.number ≡ c.loop-i.i + 1 = search (rules) in
    let resolved : resolved_of c.in_ok-duplicate.field-0 ≡ resolved_of c.index-types-i.result = c.in_ok-duplicate.ensures in
    ap (λ z. z ++ parameters_from (c.loop-i.i + 1 + 1) (map typed_name_of (drop (c.loop-i.i + 1) c.args.items.now)) (map resolved_of (drop (c.loop-i.i + 1) c.args.types.now))) more
    ∙ locals_push (map local_of c.loop-i.locals.items) (parameters_from 1 (map typed_name_of c.args.items.now) (map resolved_of c.args.types.now)) c.args.items.now c.args.types.now (c.loop-i.i + 1) c.loop-i.i c.index-items-i.result c.index-types-i.result (local_of made) in_items in_types c.index-items-i.is c.index-types-i.is name number resolved c.loop-i.invariant
