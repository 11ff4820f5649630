-- What functions return, and turns of loops.
use Rattle.std.proofs.Common.{◌≡◌, ℕ, zero, suc, ◌<◌, List, Result, Ok, refl, sym, subst, ◌∙◌, arith}
use Rattle.c0_source.specs.Terminals.{Terminal}
use Rattle.c0_grammar_laws.specs.declared.read_error.ReadError.{ReadError}
use Rattle.c0_grammar_laws.specs.declared.read_error.ReadError.TheVariants.{OutOfMemory, Syntax, TooDeep, TooLarge}
use Rattle.c0_grammar_laws.specs.Outcome.{Outcome, ◌>>=◌, Fails, Gives, kind_at, plain_at, too_deep}
use Rattle.c0_grammar_laws.specs.ReadExpressions.{ReadType, base_by, read_type, suffix_by, suffixes}

pub fails_bind : {A B : Type 0} (e : ReadError) (m : Outcome A) (f : A → Outcome B) → Fails e m → Fails e (m >>= f)
fails_bind OutOfMemory m f h = tt
fails_bind (Syntax n) m f h = rw h refl
fails_bind (TooDeep n) m f h = rw h refl
fails_bind (TooLarge n) m f h = rw h refl

pub fails_along : {A : Type 0} (e : ReadError) (x y : Outcome A) → x ≡ y → Fails e x → Fails e y
fails_along e x y same h = subst (Fails e) same h

pub gives_along : {A X : Type 0} (view : X → A) (r : Result X ReadError) (x y : Outcome A) → x ≡ y → Gives view r x → Gives view r y
gives_along view r x y same h = subst (Gives view r) same h

-- what the last read gives, all of them give
pub gives_behind : {A B X : Type 0} (view : X → B) (r : Result X ReadError) (m : Outcome A) (x : A) (f : A → Outcome B) → m ≡ Ok x → Gives view r (f x) → Gives view r (m >>= f)
gives_behind view r m x f e h = rw e h

-- ---- types

pub type_none : (types : List (List ℕ)) (d : ℕ) (ts : List Terminal) → d ≡ 0 → read_type types d ts ≡ too_deep ts
unfolding read_type
type_none types zero ts e = refl
type_none types (suc d) ts e = absurd (omega arith)

pub type_some : (types : List (List ℕ)) (d : ℕ) (ts : List Terminal) → 0 < d → (base_by (kind_at types ts) ts >>= suffixes d d) ≡ read_type types d ts
unfolding read_type
type_some types zero ts lt = absurd (omega arith)
type_some types (suc d) ts lt = refl

-- one turn
pub suffixes_turn : (limit m n : ℕ) (a : ReadType) (total : Outcome ReadType) → m ≡ suc n → suffixes limit m a ≡ total → suffix_by limit (suffixes limit n) (plain_at a.rest) a ≡ total
unfolding suffixes
suffixes_turn limit m n a total e so_far =
    let one : suffixes limit m a ≡ suffix_by limit (suffixes limit n) (plain_at a.rest) a = rw e refl in
    sym one ∙ so_far

-- no more turns
pub suffixes_end : (limit m : ℕ) (a : ReadType) (total : Outcome ReadType) → m ≡ 0 → suffixes limit m a ≡ total → total ≡ too_deep a.rest
unfolding suffixes
suffixes_end limit m a total e so_far =
    let one : suffixes limit m a ≡ too_deep a.rest = rw e refl in
    sym so_far ∙ one
