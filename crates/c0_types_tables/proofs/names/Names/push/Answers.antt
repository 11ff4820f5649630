use Rattle.std.proofs.Common.{arith, rules, map, string_bytes, ◌≡◌, ◌++◌, ◌∷◌, [], ◌∙◌, ◌<◌, sym, ap, subst, length, ℕ, Option, None}
use Rattle.std.specs.BTreeMap.{get_by_text}
use Rattle.std.proofs.lemmas.List.{length-map, map-append, length_push}
use Rattle.c0_types_tables.specs.Numbered.{place_in}
use Rattle.c0_types_tables.proofs.Numbers.{absent, place_again, place_anew, present}
use Rattle.c0_types_tables.proofs.names.Names.push.Goals as goal

pub invariant_of-self-in_default : goal.invariant_of-self-in_default
invariant_of-self-in_default c =
    let names = map string_bytes c.self.inside.names.items in
    let name = string_bytes c.args.name in
    let items : c.push.new.self.items ≡ c.self.inside.names.items ++ c.args.name ∷ [] = c.in_ok-push.ensures.items in
    let named : map string_bytes c.push.new.self.items ≡ names ++ name ∷ [] = ap (map string_bytes) items ∙ map-append string_bytes c.self.inside.names.items (c.args.name ∷ []) in
    let none = absent c.get.result (get_by_text c.self.inside.numbers name) c.get.ensures.value (search (rules)) in
    let key : string_bytes c.in_ok-key.key ≡ name = search (rules) in
    let absent_key = subst (λ z. ◌≡◌ {A = Option ℕ} (get_by_text c.self.inside.numbers z) None) (sym key) none in
    let long = length-map c.self.inside.names.items string_bytes in
    let last : c.len-number.result ≡ length names = omega (arith, long, c.len-number.ensures, c.self.inside.names.ok.0) in
    let placed = place_anew names (string_bytes c.in_ok-key.key) c.self.inside.numbers c.insert.new.self c.len-number.result c.self.invariant.1 absent_key last c.in_default.ensures.updates in
    let more = ap length items ∙ length_push c.self.inside.names.items c.args.name in
    let small : length c.push.new.self.items < 4294967295 = omega (arith, more, c.if-len-ge4294967294.false, c.len.ensures, c.self.inside.names.ok.0) in
    (small, λ n. placed n ∙ ap (λ z. place_in 0 (names ++ z ∷ []) n) key ∙ ap (λ z. place_in 0 z n) (sym named))

pub invariant_of-self-in-Continue-branch-3 : goal.invariant_of-self-in-Continue-branch-3
invariant_of-self-in-Continue-branch-3 c =
    let names = map string_bytes c.self.inside.names.items in
    let name = string_bytes c.args.name in
    let items : c.push-else-is_none.new.self.items ≡ c.self.inside.names.items ++ c.args.name ∷ [] = c.in_ok-push-2.ensures.items in
    let named : map string_bytes c.push-else-is_none.new.self.items ≡ names ++ name ∷ [] = ap (map string_bytes) items ∙ map-append string_bytes c.self.inside.names.items (c.args.name ∷ []) in
    let there = present c.get.result (get_by_text c.self.inside.numbers name) c.get.ensures.value (search (rules)) in
    let again = place_again names name there.0 (sym (c.self.invariant.1 name) ∙ there.1) in
    let more = ap length items ∙ length_push c.self.inside.names.items c.args.name in
    let small : length c.push-else-is_none.new.self.items < 4294967295 = omega (arith, more, c.if-len-ge4294967294.false, c.len.ensures, c.self.inside.names.ok.0) in
    (small, λ n. c.self.invariant.1 n ∙ again n ∙ ap (λ z. place_in 0 z n) (sym named))
