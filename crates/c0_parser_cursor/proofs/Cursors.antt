-- The next token, and names of types.
use Rattle.std.proofs.Common.{◌≡◌, ◌≤◌, ℕ, Bool, true, false, List, [], ◌∷◌, ◌++◌, length, map, drop, get_or, refl, sym, ap, ◌∙◌, arith, subst, Option, Some, None, Bor, Vec, Global, ◌||◌}
use Rattle.std.specs.BTreeSet.{BTreeSet, UpdatesBy, contains_by}
use Rattle.std.specs.Cmp.{eq_by_cmp_equiv}
use Rattle.std.specs.Cmp.Lexicographic.{bytes_decides, nat_list_cmp_total, nat_list_eq_equiv, slice_cmp}
use Rattle.std.specs.List.{list_any}
use Rattle.std.specs.Map.{AreApart, IsKeyTest}
use Rattle.std.specs.Ordering.{is_eq, nat_cmp}
use Rattle.std.specs.Set.{KeepsOthers}
use Rattle.std.specs.Prelude.{cond}
use Rattle.std.specs.Str.{bytes_eq}
use Rattle.std.proofs.lemmas.Map.Text.{is_eq-slice_cmp}
use Rattle.c0_source.specs.declared.kind.Kind.{Kind}
use Rattle.c0_source.specs.declared.kind.Kind.TheVariants as k
use Rattle.c0_source.specs.Terminals.{Terminal, terminal_by, terminals, or_empty, use_terminal}
use Rattle.c0_source.specs.Spelling.{text_value, use_of}
use Rattle.c0_lexer.specs.declared.token.Token.{Token}
use Rattle.c0_lexer.specs.Lexed.{lexeme}
use Rattle.c0_syntax.specs.Expressions.{is_type_name}
use Rattle.c0_grammar_laws.specs.Outcome.{bytes_at, plain_at}
use Rattle.c0_grammar_laws.specs.Tokens.{last_first}

kind_of_use : (o : Option (Bool × List ℕ)) (rest : List Terminal) → plain_at (use_terminal o ∷ rest) ≡ k.Use
kind_of_use None rest = refl
kind_of_use (Some x) rest = refl

kind_of_terminal : (kind : Kind) (text : List ℕ) (rest : List Terminal) → (kind ≡ k.TypeName → ⊥) → plain_at (terminal_by kind text ∷ rest) ≡ kind
kind_of_terminal k.Use text rest h = kind_of_use (use_of (drop 1 text)) rest
kind_of_terminal k.TypeName text rest h = absurd (h refl)
kind_of_terminal _ text rest h = refl

pub peek_first : (ts : List Token) (d : Token) → 1 ≤ length ts → ((get_or ts 0 d).kind ≡ k.TypeName → ⊥) → (get_or ts 0 d).kind ≡ plain_at (terminals (map lexeme ts))
peek_first [] d le h = absurd (omega arith)
peek_first (t ∷ ts) d le h = sym (kind_of_terminal t.kind t.text.now (terminals (map lexeme ts)) h)

-- the bytes of a text that stands next
text_of_terminal : (kind : Kind) (text : List ℕ) (rest : List Terminal) → plain_at (terminal_by kind text ∷ rest) ≡ k.Text → bytes_at (terminal_by kind text ∷ rest) ≡ or_empty (text_value false (drop 1 text))
text_of_terminal k.Text text rest e = refl
text_of_terminal k.Name text rest e = absurd (cc e)
text_of_terminal k.Use text rest e = let u = kind_of_use (use_of (drop 1 text)) rest in absurd (cc (sym u ∙ e))
text_of_terminal _ text rest e = absurd (cc e)

pub text_first : (ts : List Token) (d : Token) (us : List Terminal) → 1 ≤ length ts → terminals (map lexeme ts) ≡ us → plain_at us ≡ k.Text → bytes_at us ≡ or_empty (text_value false (drop 1 (get_or ts 0 d).text.now))
text_first [] d us le seen e = absurd (omega arith)
text_first (t ∷ ts) d us le seen e = sym (ap bytes_at seen) ∙ text_of_terminal t.kind t.text.now (terminals (map lexeme ts)) (ap plain_at seen ∙ e)

-- ---- names of types

abbrev texts : List (Bor (List ℕ)) → List (List ℕ)
texts xs = map (λ x. x.now) xs

pub last_push : (before : List (List ℕ)) (xs : List (Bor (List ℕ))) (y : Bor (List ℕ)) → last_first before (texts (xs ++ y ∷ [])) ≡ y.now ∷ last_first before (texts xs)
last_push before [] y = refl
last_push before (x ∷ xs) y = last_push (x.now ∷ before) xs y

-- ---- names in a set

apart : (a b c : List ℕ) → bytes_eq a b ≡ false → bytes_eq a c ≡ true → bytes_eq b c ≡ false
apart a b c other same = nat_list_eq_equiv.symm b c ∙ sym (nat_list_eq_equiv.congr a c b same) ∙ other

apart_in_order : (a b c : List ℕ) → bytes_eq a b ≡ false → is_eq (slice_cmp nat_cmp a c) ≡ true → is_eq (slice_cmp nat_cmp b c) ≡ false
apart_in_order a b c other same = is_eq-slice_cmp b c ∙ apart a b c other (sym (is_eq-slice_cmp a c) ∙ same)

module _ {K : Type 0} (eq : K → K → Bool) (test : K → Bool) where
  other_keys : (old new : List K) → KeepsOthers eq test old new → (other : K → Bool) → IsKeyTest eq other → AreApart test other → list_any other new ≡ list_any other old
  unfolding KeepsOthers
  other_keys old new h = h

cond_or : (b c : Bool) → cond b true c ≡ (b || c)
cond_or true c = refl
cond_or false c = refl

-- a set of names with one name more has it, and what it had
pub known_after : (known after : BTreeSet (Vec ℕ Global)) (before : List (List ℕ)) (y : Vec ℕ Global) → UpdatesBy (λ a b. slice_cmp nat_cmp a.items b.items) (λ k. slice_cmp nat_cmp y.items k.items) known after true
    → ((n : List ℕ) → contains_by (λ k. slice_cmp nat_cmp n k.items) known ≡ is_type_name before n)
    → (n : List ℕ) → contains_by (λ k. slice_cmp nat_cmp n k.items) after ≡ is_type_name (y.items ∷ before) n
known_after known after before y updates holds n = at (bytes_eq y.items n) refl ∙ cond_or (bytes_eq y.items n) (contains_by (λ k. slice_cmp nat_cmp n k.items) known) ∙ ap (λ b. bytes_eq y.items n || b) (holds n)
  where
    at : (b : Bool) → bytes_eq y.items n ≡ b → contains_by (λ k. slice_cmp nat_cmp n k.items) after ≡ cond b true (contains_by (λ k. slice_cmp nat_cmp n k.items) known)
    at true e = subst (λ l. contains_by (λ k. slice_cmp nat_cmp l k.items) after ≡ true) ((bytes_decides y.items n).0 e) updates.1
    at false e = other_keys _ _ _ _ updates.3 _ (λ a b. (eq_by_cmp_equiv nat_list_cmp_total).congr n a.items b.items) (λ k. apart_in_order y.items n k.items e)
