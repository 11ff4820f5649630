-- Locals, looked up from the front.
use Rattle.std.proofs.Common.{◌≡◌, ℕ, ◌+◌, ◌<◌, List, length, get_or, map, drop, ap, ◌∙◌, true, false, Some}
use Rattle.std.specs.Prelude.{bytes_eq, cond}
use Rattle.std.specs.String.{string_bytes}
use Rattle.std.proofs.lemmas.List.{drop_more}
use Rattle.c0_rules.specs.Types.{Name}
use Rattle.c0_rules.specs.Expressions as x
use Rattle.c0_types_terms.specs.Terms.{local_of}
use Rattle.c0_types_terms.specs.declared.typing.Local.{Local}

-- the one that stands next
pub found : (xs : List Local) (n : Name) (i : ℕ) (d : Local) → i < length xs → bytes_eq n (string_bytes (get_or xs i d).name) ≡ true
    → x.local_of (map local_of (drop i xs)) n ≡ Some (local_of (get_or xs i d))
found xs n i d h e =
    ap (λ z. x.local_of (map local_of z) n) (drop_more xs i d h)
    ∙ ap (λ b. cond b (Some (local_of (get_or xs i d))) (x.local_of (map local_of (drop (i + 1) xs)) n)) e

-- one behind it
pub passed : (xs : List Local) (n : Name) (i : ℕ) (d : Local) → i < length xs → bytes_eq n (string_bytes (get_or xs i d).name) ≡ false
    → x.local_of (map local_of (drop i xs)) n ≡ x.local_of (map local_of (drop (i + 1) xs)) n
passed xs n i d h e =
    ap (λ z. x.local_of (map local_of z) n) (drop_more xs i d h)
    ∙ ap (λ b. cond b (Some (local_of (get_or xs i d))) (x.local_of (map local_of (drop (i + 1) xs)) n)) e
