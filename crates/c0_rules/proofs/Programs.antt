-- What the static rules give of a program is well typed.
use Rattle.std.proofs.Common.{◌≡◌, ℕ, zero, suc, ◌<◌, inr, List, [], ◌∷◌, length, refl, sym, ap, ◌∙◌, subst, arith, append-nil, Bool, true, false, Option, Some, None}
use Rattle.std.specs.Prelude.{◌&&◌, ◌||◌, bytes_eq, nat_lt, slice_get, map, filter_map, flat_map, slice_index_or}
use Rattle.std.specs.List.{All, list_all}
use Rattle.std.proofs.lemmas.Bool.{ltb-true}
use Rattle.std.proofs.lemmas.Option.{slice_get_within}
use Rattle.c0_syntax.specs.Trees.{Declaration, Program}
use Rattle.c0_typed.specs.Trees as t
use Rattle.c0_typed.specs.Typing as ty
use Rattle.c0_rules.specs.Types.{Name, is_among, number_in, IntType, same_type, same_types, Signature, Environment, numbered, is_ascii}
use Rattle.c0_rules.specs.Mentions.{Mention, OfVariable, OfFunction, OfText, function_of as called_of, text_of, declaration_mentions, program_mentions, texts_of, calls_of}
use Rattle.c0_rules.specs.Expressions.{num}
use Rattle.c0_rules.specs.Programs.{is_defined, function_names_of, Elaboration, typed_declaration, typed_declarations, beginning, main_name, is_main, is_callable, whole_agrees, program_from, typed_program}
use Rattle.c0_rules.proofs.Rules.{both_true, same_type_is, same_types_are, AllSome, all_so, all_if, all_map}
use Rattle.c0_rules.proofs.Expressions.{Knows, IsNamed, AreNamed, named_left, named_right}
use Rattle.c0_rules.proofs.Declarations.{Later, Stands, Fitting, Goes, declaration_ok, is_defined_some}

-- ---- what is named

-- what is named is known as well to another environment of the same program
named_still : (p : t.Program) (w v : Environment) (ms : List Mention) → v.conio ≡ w.conio → v.function_names ≡ w.function_names → AreNamed p v ms → AreNamed p w ms
named_still p w v [] c n m = tt
named_still p w v (a ∷ ms) c n m = (one a m.0, named_still p w v ms c n m.1)
  where
    one : (a : Mention) → IsNamed p v a → IsNamed p w a
    one (OfVariable x) h = tt
    one (OfFunction x) h = cc (h, c, n)
    one (OfText x) h = h

named_from : (p : t.Program) (env : Environment) (ms : List Mention) → list_all (is_callable env) (filter_map called_of ms) ≡ true
    → ((x : Name) (k : ℕ) → slice_get (filter_map text_of ms) k ≡ Some x → ty.IsText p.texts x) → AreNamed p env ms
named_from p env [] c h = tt
named_from p env (OfVariable n ∷ ms) c h = (tt, named_from p env ms c h)
named_from p env (OfFunction n ∷ ms) c h = let q = both_true (is_callable env n) (list_all (is_callable env) (filter_map called_of ms)) c in (q.0, named_from p env ms q.1 h)
named_from p env (OfText x ∷ ms) c h = (h x 0 refl, named_from p env ms c (λ y k e. h y (suc k) e))

-- ---- declarations in order

-- behind some declarations, and what they made
record Ends (rest : List Declaration) (e e' : Elaboration) : Type 0 where
  stands : Stands [] e'
  later : Later e.environment e'.environment
  made : (p : t.Program) → Knows p e'.environment → AreNamed p e'.environment (flat_map declaration_mentions rest) → Fitting p e.functions → Fitting p e'.functions

later_trans : (a b c : Environment) → Later a b → Later b c → Later a c
later_trans a b c x y = record {
  conio = y.conio ∙ x.conio;
  struct_names = y.struct_names ∙ x.struct_names;
  function_names = y.function_names ∙ x.function_names;
  structs = λ n d h. y.structs n d (x.structs n d h);
  functions = λ n f h. let g = x.functions n f h in let k = y.functions n g.0 g.1 in (k.0, k.1, k.2 ∙ g.2, k.3 ∙ g.3);
}

knows_back : (p : t.Program) (w v : Environment) → Later w v → Knows p v → Knows p w
knows_back p w v l k = record {
  structs = λ n d h.
      let at = k.structs n d (l.structs n d h) in
      (at.0, subst (λ z. slice_get p.structs (number_in z n) ≡ Some at.0) l.struct_names at.1, λ m f q. at.2 m f q ∙ ap (λ z. Some (numbered z f.1)) l.struct_names);
  functions = λ n f h a.
      let g = l.functions n f h in
      let m = k.functions n g.0 g.1 (subst (λ z. is_among n z ≡ true) (sym l.function_names) a) in (
        m.0,
        subst (λ z. slice_get p.functions (number_in z n) ≡ Some m.0) l.function_names m.1,
        m.2 ∙ ap (λ z. numbered z g.0.result) l.struct_names ∙ ap (num w) g.2,
        m.3 ∙ ap (λ z. map (numbered z) g.0.parameters) l.struct_names ∙ ap (map (num w)) g.3,
      );
}

declarations_ok : (rest : List Declaration) (e : Elaboration) → Stands rest e → AllSome (Ends rest e) (typed_declarations rest e)
declarations_ok [] e st = record { stands = st; later = record { conio = refl; struct_names = refl; function_names = refl; structs = λ n d h. h; functions = λ n f h. (f, h, refl, refl) }; made = λ p k m h. h }
declarations_ok (d ∷ rest) e st =
    all_so (Goes d rest e) (Ends (d ∷ rest) e) (typed_declaration d e) _ (declaration_ok d rest e st) (λ e1 g.
    all_map (Ends rest e1) (Ends (d ∷ rest) e) (typed_declarations rest e1) (declarations_ok rest e1 g.stands) (λ e2 en.
    record {
      stands = en.stands;
      later = later_trans e.environment e1.environment e2.environment g.later en.later;
      made = λ p k m h. en.made p k (named_right p e2.environment (declaration_mentions d) _ m)
          (g.made p (knows_back p e1.environment e2.environment en.later k)
          (named_still p e1.environment e2.environment (declaration_mentions d) en.later.conio en.later.function_names (named_left p e2.environment (declaration_mentions d) _ m)) h);
    }))

begins : (program : Program) → Stands program (beginning program)
begins program = record {
  structs = record {
    before = [];
    split = refl;
    long = refl;
    known = λ n e. absurd (cc e);
    there = λ n d e. absurd (cc e);
    fit = tt;
    sized = λ n d e. absurd (cc e);
    small = λ k ts e. absurd (cc e);
  };
  functions = record { before = []; split = refl; long = refl; known = λ n e. absurd (cc e); there = λ n f e d. absurd (cc e) };
}

-- ---- the whole program

all_ascii : (x : Name) → is_ascii x ≡ true → (k d : ℕ) → k < length x → slice_index_or x k d < 128
all_ascii [] e k d h = absurd (let z : ⊥ = omega (arith, h) in z)
all_ascii (b ∷ x) e zero d h = ltb-true b 128 (both_true (nat_lt b 128) (is_ascii x) e).0
all_ascii (b ∷ x) e (suc k) d h = all_ascii x (both_true (nat_lt b 128) (is_ascii x) e).1 k d (omega (arith, h))

ascii_texts : (xs : List Name) → list_all is_ascii xs ≡ true → (k : ℕ) (x : Name) → slice_get xs k ≡ Some x → All (λ b. b < 128) x
ascii_texts [] e k x q = absurd (cc q)
ascii_texts (y ∷ xs) e zero x q = let same : y ≡ x = cc q in subst (All (λ b. b < 128)) same (all_ascii y (both_true (is_ascii y) (list_all is_ascii xs) e).0)
ascii_texts (y ∷ xs) e (suc k) x q = ascii_texts xs (both_true (is_ascii y) (list_all is_ascii xs) e).1 k x q

module _ (program : Program) (e : Elaboration) (en : Ends program (beginning program) e) where
  main_is : (o : Option Signature) → e.environment.functions main_name ≡ o → is_main o ≡ true
      → (f : t.Function) × (slice_get e.functions (number_in e.environment.function_names main_name) ≡ Some f) × (f.parameters ≡ []) × (f.result ≡ t.IntTy)
  main_is None q h = absurd (cc h)
  main_is (Some f) q h =
      let x = both_true (f.defined && same_type f.result IntType) (same_types f.parameters []) h in
      let y = both_true f.defined (same_type f.result IntType) x.0 in
      let there = en.stands.functions.there main_name f q y.0 in (
        there.0,
        there.1,
        there.3 ∙ ap (map (num e.environment)) (same_types_are f.parameters [] x.1),
        there.2 ∙ ap (num e.environment) (same_type_is f.result IntType y.1),
      )

  knows : Knows (program_from program e) e.environment
  knows = record {
    structs = λ n d h. en.stands.structs.there n d h;
    functions = λ n f h a.
        let among : is_among n en.stands.functions.before ≡ true = subst (λ z. is_among n z ≡ true) (en.stands.functions.split ∙ append-nil en.stands.functions.before) a in
        let defined : f.defined ≡ true = subst (λ o. is_defined o ≡ true) h (en.stands.functions.known n among) in
        en.stands.functions.there n f h defined;
  }

  whole : whole_agrees program e ≡ true → ty.FitsProgram (program_from program e)
  whole h =
      let x = both_true (is_main (e.environment.functions main_name) && list_all (is_callable e.environment) (calls_of program)) (list_all is_ascii (texts_of program)) h in
      let y = both_true (is_main (e.environment.functions main_name)) (list_all (is_callable e.environment) (calls_of program)) x.0 in
      record {
        structs = en.stands.structs.fit;
        functions = en.made (program_from program e) knows (named_from (program_from program e) e.environment (program_mentions program) y.1 (λ z k q. inr (k, q))) (λ k g q. absurd (cc q));
        main = main_is (e.environment.functions main_name) refl y.0;
        ascii = ascii_texts (texts_of program) x.1;
        small = en.stands.structs.small;
      }

-- what the rules give is well typed
pub elaborated_fits : (program : Program) → AllSome ty.FitsProgram (typed_program program)
elaborated_fits program =
    all_so (Ends program (beginning program)) ty.FitsProgram (typed_declarations program (beginning program)) _ (declarations_ok program (beginning program) (begins program)) (λ e en.
    all_if ty.FitsProgram (whole_agrees program e) _ (whole program e en))

-- ---- a function that has been defined

among_of_number : (names : List Name) (n : Name) → number_in names n < length names → is_among n names ≡ true
among_of_number [] n l = absurd (omega (arith, l))
among_of_number (x ∷ names) n l = at (bytes_eq n x) l (among_of_number names n)
  where
    at : (b : Bool) → (elim b [ true ↦ 0 | false ↦ suc (number_in names n) ]) < suc (length names) → (number_in names n < length names → is_among n names ≡ true) → (b || is_among n names) ≡ true
    at true k go = refl
    at false k go = go (omega (arith, k))

-- what has been defined behind all declarations is among what they define
abbrev pub DefinedThere : Program → Elaboration → Type 0
DefinedThere program e = (n : Name) → is_defined (e.environment.functions n) ≡ true → is_among n (function_names_of program) ≡ true

pub defined_there : (program : Program) → AllSome (DefinedThere program) (typed_declarations program (beginning program))
defined_there program =
    all_map (Ends program (beginning program)) (DefinedThere program) (typed_declarations program (beginning program)) (declarations_ok program (beginning program) (begins program)) (λ e en n h.
    let names = e.environment.function_names in
    let found = is_defined_some (e.environment.functions n) h in
    let at = en.stands.functions.there n found.0 found.1 found.2 in
    let within = slice_get_within e.functions (number_in names n) at.0 at.1 in
    let long = en.stands.functions.long in
    let all = ap length en.stands.functions.split ∙ ap length (append-nil en.stands.functions.before) in
    subst (λ z. is_among n z ≡ true) en.later.function_names (among_of_number names n (omega (arith, within, long, all))))
