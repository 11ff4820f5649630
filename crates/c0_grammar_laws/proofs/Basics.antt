-- Steps that did not fail, and the next token.
use Rattle.std.proofs.Common.{◌≡◌, ℕ, ◌⊎◌, Bool, true, false, cond, List, [], ◌∷◌, Ok, Err, refl, sym, ap, subst, ◌∙◌, inl, inr}
use Rattle.c0_source.specs.declared.kind.Kind.{Kind}
use Rattle.c0_source.specs.declared.kind.Kind.TheVariants as k
use Rattle.c0_source.specs.Terminals.{Terminal, Word, Text, Use, Sign}
use Rattle.c0_syntax.specs.Expressions.{is_type_name}
use Rattle.c0_grammar_laws.specs.Outcome.{Outcome, ◌>>=◌, Read, real, name_kind, kind_at, plain_at, bytes_at, next, lparen_by, rparen_by, rbracket_by, semi_by, comma_by, colon_by, name_by, lparen, rparen, rbracket, semi, comma, colon, any_name, new_name}

pub bind_ok : {A B : Type 0} (m : Outcome A) (f : A → Outcome B) (y : B) → (m >>= f) ≡ Ok y → (x : A) × (m ≡ Ok x) × (f x ≡ Ok y)
bind_ok (Ok x) f y e = (x, refl, e)
bind_ok (Err d) f y e = absurd cc

abbrev done : {A : Type 0} → A → Outcome A
done x = Ok x

pub ok_is : {A : Type 0} (x y : A) → done x ≡ done y → x ≡ y
ok_is x y e = cc

pub chosen : {A : Type 0} (b : Bool) (x y z : Outcome A) → cond b x y ≡ z → ((b ≡ true) × (x ≡ z)) ⊎ ((b ≡ false) × (y ≡ z))
chosen true x y z e = inl (refl, e)
chosen false x y z e = inr (refl, e)

-- ---- the next token

abbrev pub IsSign : Kind → Type 0
IsSign k.EndOfText = ⊥
IsSign k.Name = ⊥
IsSign k.TypeName = ⊥
IsSign k.Text = ⊥
IsSign k.Use = ⊥
IsSign _ = Unit {0}

sign_by : (kind x : Kind) (ts : List Terminal) → real kind ≡ x → IsSign x → Sign kind ∷ ts ≡ Sign x ∷ ts
sign_by k.Name x ts e s = absurd (subst IsSign (sym e) s)
sign_by k.TypeName x ts e s = absurd (subst IsSign (sym e) s)
sign_by k.Text x ts e s = absurd (subst IsSign (sym e) s)
sign_by k.Use x ts e s = absurd (subst IsSign (sym e) s)
sign_by kind x ts e s = ap (λ (z : Kind). Sign z ∷ ts) e

pub sign_at : (ts : List Terminal) (x : Kind) → plain_at ts ≡ x → IsSign x → ts ≡ Sign x ∷ next ts
sign_at [] x e s = absurd (subst IsSign (sym e) s)
sign_at (Word y ∷ ts) x e s = absurd (subst IsSign (sym e) s)
sign_at (Text y ∷ ts) x e s = absurd (subst IsSign (sym e) s)
sign_at (Use a y ∷ ts) x e s = absurd (subst IsSign (sym e) s)
sign_at (Sign kind ∷ ts) x e s = sign_by kind x ts e s

name_not : (b : Bool) (x : Kind) → name_kind b ≡ x → IsSign x → ⊥
name_not true x e s = subst IsSign (sym e) s
name_not false x e s = subst IsSign (sym e) s

pub kind_sign : (types : List (List ℕ)) (ts : List Terminal) (x : Kind) → kind_at types ts ≡ x → IsSign x → ts ≡ Sign x ∷ next ts
kind_sign types [] x e s = absurd (subst IsSign (sym e) s)
kind_sign types (Word y ∷ ts) x e s = absurd (name_not (is_type_name types y) x e s)
kind_sign types (Text y ∷ ts) x e s = absurd (subst IsSign (sym e) s)
kind_sign types (Use a y ∷ ts) x e s = absurd (subst IsSign (sym e) s)
kind_sign types (Sign kind ∷ ts) x e s = sign_by kind x ts e s

abbrev IsWord : Kind → Type 0
IsWord k.Name = Unit {0}
IsWord k.TypeName = Unit {0}
IsWord k.Text = Unit {0}
IsWord k.Use = Unit {0}
IsWord _ = ⊥

-- no sign looks like a name, a text or a use
not_word : (kind x : Kind) → real kind ≡ x → IsWord x → ⊥
not_word k.Name x e w = subst IsWord (sym e) w
not_word k.TypeName x e w = subst IsWord (sym e) w
not_word k.Text x e w = subst IsWord (sym e) w
not_word k.Use x e w = subst IsWord (sym e) w
not_word kind x e w = subst IsWord (sym e) w

pub word_at : (ts : List Terminal) → plain_at ts ≡ k.Name → ts ≡ Word (bytes_at ts) ∷ next ts
word_at [] e = absurd cc
word_at (Word y ∷ ts) e = refl
word_at (Text y ∷ ts) e = absurd cc
word_at (Use a y ∷ ts) e = absurd cc
word_at (Sign kind ∷ ts) e = absurd (not_word kind k.Name e tt)

free_by : (b : Bool) → name_kind b ≡ k.Name → b ≡ false
free_by true e = absurd cc
free_by false e = refl

type_by : (b : Bool) → name_kind b ≡ k.TypeName → b ≡ true
type_by true e = refl
type_by false e = absurd cc

pub free_at : (types : List (List ℕ)) (ts : List Terminal) → kind_at types ts ≡ k.Name → (ts ≡ Word (bytes_at ts) ∷ next ts) × (is_type_name types (bytes_at ts) ≡ false)
free_at types [] e = absurd cc
free_at types (Word y ∷ ts) e = (refl, free_by (is_type_name types y) e)
free_at types (Text y ∷ ts) e = absurd cc
free_at types (Use a y ∷ ts) e = absurd cc
free_at types (Sign kind ∷ ts) e = absurd (not_word kind k.Name e tt)

pub type_at : (types : List (List ℕ)) (ts : List Terminal) → kind_at types ts ≡ k.TypeName → (ts ≡ Word (bytes_at ts) ∷ next ts) × (is_type_name types (bytes_at ts) ≡ true)
type_at types [] e = absurd cc
type_at types (Word y ∷ ts) e = (refl, type_by (is_type_name types y) e)
type_at types (Text y ∷ ts) e = absurd cc
type_at types (Use a y ∷ ts) e = absurd cc
type_at types (Sign kind ∷ ts) e = absurd (not_word kind k.TypeName e tt)

name_not_text : (b : Bool) → name_kind b ≡ k.Text → ⊥
name_not_text true e = cc
name_not_text false e = cc

pub text_at : (types : List (List ℕ)) (ts : List Terminal) → kind_at types ts ≡ k.Text → ts ≡ Text (bytes_at ts) ∷ next ts
text_at types [] e = absurd cc
text_at types (Word y ∷ ts) e = absurd (name_not_text (is_type_name types y) e)
text_at types (Text y ∷ ts) e = refl
text_at types (Use a y ∷ ts) e = absurd cc
text_at types (Sign kind ∷ ts) e = absurd (not_word kind k.Text e tt)

-- ---- a token that must stand here

lparen_by_ok : (kind : Kind) (ts us : List Terminal) → plain_at ts ≡ kind → lparen_by kind ts ≡ Ok us → ts ≡ Sign k.LParen ∷ us
lparen_by_ok k.LParen ts us is e = sign_at ts k.LParen is tt ∙ ap (λ (vs : List Terminal). Sign k.LParen ∷ vs) (ok_is _ _ e)
lparen_by_ok _ ts us is e = absurd cc

pub lparen_ok : (ts us : List Terminal) → lparen ts ≡ Ok us → ts ≡ Sign k.LParen ∷ us
lparen_ok ts us e = lparen_by_ok (plain_at ts) ts us refl e

rparen_by_ok : (kind : Kind) (ts us : List Terminal) → plain_at ts ≡ kind → rparen_by kind ts ≡ Ok us → ts ≡ Sign k.RParen ∷ us
rparen_by_ok k.RParen ts us is e = sign_at ts k.RParen is tt ∙ ap (λ (vs : List Terminal). Sign k.RParen ∷ vs) (ok_is _ _ e)
rparen_by_ok _ ts us is e = absurd cc

pub rparen_ok : (ts us : List Terminal) → rparen ts ≡ Ok us → ts ≡ Sign k.RParen ∷ us
rparen_ok ts us e = rparen_by_ok (plain_at ts) ts us refl e

rbracket_by_ok : (kind : Kind) (ts us : List Terminal) → plain_at ts ≡ kind → rbracket_by kind ts ≡ Ok us → ts ≡ Sign k.RBracket ∷ us
rbracket_by_ok k.RBracket ts us is e = sign_at ts k.RBracket is tt ∙ ap (λ (vs : List Terminal). Sign k.RBracket ∷ vs) (ok_is _ _ e)
rbracket_by_ok _ ts us is e = absurd cc

pub rbracket_ok : (ts us : List Terminal) → rbracket ts ≡ Ok us → ts ≡ Sign k.RBracket ∷ us
rbracket_ok ts us e = rbracket_by_ok (plain_at ts) ts us refl e

semi_by_ok : (kind : Kind) (ts us : List Terminal) → plain_at ts ≡ kind → semi_by kind ts ≡ Ok us → ts ≡ Sign k.Semi ∷ us
semi_by_ok k.Semi ts us is e = sign_at ts k.Semi is tt ∙ ap (λ (vs : List Terminal). Sign k.Semi ∷ vs) (ok_is _ _ e)
semi_by_ok _ ts us is e = absurd cc

pub semi_ok : (ts us : List Terminal) → semi ts ≡ Ok us → ts ≡ Sign k.Semi ∷ us
semi_ok ts us e = semi_by_ok (plain_at ts) ts us refl e

comma_by_ok : (kind : Kind) (ts us : List Terminal) → plain_at ts ≡ kind → comma_by kind ts ≡ Ok us → ts ≡ Sign k.Comma ∷ us
comma_by_ok k.Comma ts us is e = sign_at ts k.Comma is tt ∙ ap (λ (vs : List Terminal). Sign k.Comma ∷ vs) (ok_is _ _ e)
comma_by_ok _ ts us is e = absurd cc

pub comma_ok : (ts us : List Terminal) → comma ts ≡ Ok us → ts ≡ Sign k.Comma ∷ us
comma_ok ts us e = comma_by_ok (plain_at ts) ts us refl e

colon_by_ok : (kind : Kind) (ts us : List Terminal) → plain_at ts ≡ kind → colon_by kind ts ≡ Ok us → ts ≡ Sign k.Colon ∷ us
colon_by_ok k.Colon ts us is e = sign_at ts k.Colon is tt ∙ ap (λ (vs : List Terminal). Sign k.Colon ∷ vs) (ok_is _ _ e)
colon_by_ok _ ts us is e = absurd cc

pub colon_ok : (ts us : List Terminal) → colon ts ≡ Ok us → ts ≡ Sign k.Colon ∷ us
colon_ok ts us e = colon_by_ok (plain_at ts) ts us refl e

any_name_by_ok : (kind : Kind) (ts : List Terminal) (x : Read (List ℕ)) → plain_at ts ≡ kind → name_by kind ts ≡ Ok x → ts ≡ Word x.value ∷ x.rest
any_name_by_ok k.Name ts x is e = subst (λ (y : Read (List ℕ)). ts ≡ Word y.value ∷ y.rest) (ok_is _ x e) (word_at ts is)
any_name_by_ok _ ts x is e = absurd cc

pub any_name_ok : (ts : List Terminal) (x : Read (List ℕ)) → any_name ts ≡ Ok x → ts ≡ Word x.value ∷ x.rest
any_name_ok ts x e = any_name_by_ok (plain_at ts) ts x refl e

new_name_by_ok : (types : List (List ℕ)) (kind : Kind) (ts : List Terminal) (x : Read (List ℕ)) → kind_at types ts ≡ kind → name_by kind ts ≡ Ok x → (ts ≡ Word x.value ∷ x.rest) × (is_type_name types x.value ≡ false)
new_name_by_ok types k.Name ts x is e =
    subst (λ (y : Read (List ℕ)). (ts ≡ Word y.value ∷ y.rest) × (is_type_name types y.value ≡ false)) (ok_is _ x e) (free_at types ts is)
new_name_by_ok types _ ts x is e = absurd cc

pub new_name_ok : (types : List (List ℕ)) (ts : List Terminal) (x : Read (List ℕ)) → new_name types ts ≡ Ok x → (ts ≡ Word x.value ∷ x.rest) × (is_type_name types x.value ≡ false)
new_name_ok types ts x e = new_name_by_ok types (kind_at types ts) ts x refl e

pub new_name_is : (types : List (List ℕ)) (x : List ℕ) (ts : List Terminal) → is_type_name types x ≡ false → new_name types (Word x ∷ ts) ≡ Ok (record { value = x; rest = ts })
new_name_is types x ts e = rw e refl
