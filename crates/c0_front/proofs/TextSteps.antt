-- One text has one list of tokens and one program, and is refused for one only where memory runs out.
use Rattle.std.proofs.Common.{◌≡◌, ◌⊎◌, inl, inr, ℕ, zero, suc, ◌+◌, ◌-◌, ◌<◌, ◌≤◌, Bool, List, [], ◌∷◌, ◌++◌, get_or, length, map, refl, sym, ap, ◌∙◌, subst, arith, Option, Some, None, Result, Ok, Err}
use Rattle.std.specs.Prelude.{IfErr, IfOk, MatchResult}
use Rattle.std.proofs.lemmas.List.Elements.{All-get_or}
use Rattle.c0_source.proofs.Once.{fault_excludes, one_spelling}
use Rattle.c0_source.specs.declared.fault.Fault.{Fault}
use Rattle.c0_source.specs.declared.fault.FaultKind.{FaultKind}
use Rattle.c0_source.specs.declared.fault.FaultKind.TheVariants as k
use Rattle.c0_source.specs.SourceTexts.{FirstBadByte, IsRefused, IsSourceText, RefusedAt}
use Rattle.c0_source.specs.Spelling.{Lexeme, end_of_text}
use Rattle.c0_lexer.specs.Lexed.{IsFault, IsLexed}
use Rattle.c0_syntax.specs.Programs.{Reads}
use Rattle.c0_syntax.specs.Trees.{Program}
use Rattle.c0_syntax.specs.Views.{program_of}
use Rattle.c0_syntax.specs.declared.program.Program.{Program as Placed}
use Rattle.c0_typed.specs.Trees as y
use Rattle.c0_typed.specs.Views.{program_of as typed_of}
use Rattle.c0_typed.specs.declared.tree.Typed.{Typed}
use Rattle.c0_grammar_laws.proofs.CompletePrograms.{complete_program}
use Rattle.c0_grammar_laws.proofs.SoundPrograms.{one_program}
use Rattle.c0_grammar_laws.specs.PlacedPrograms.{PlacedIn}
use Rattle.c0_grammar_laws.specs.Parsing.{IsReadFault, Meets, before_last, place_of, read_from, start_at}
use Rattle.c0_rules.specs.Answers.{Answers}
use Rattle.c0_rules.specs.FaultPrograms.{FaultAt}
use Rattle.c0_rules.specs.Programs.{typed_program}
use Rattle.c0_front.specs.Texts.{HasTokens, IsPlacedTextOf, IsRefusedText, IsTextOf, IsTypedAs}

-- ---- one of each

pub one_tokens : (text : List ℕ) (ts us : List Lexeme) → HasTokens text ts → HasTokens text us → ts ≡ us
one_tokens text ts us g h =
    let same = one_spelling text g.lexed.all h.lexed.all g.lexed.spelled h.lexed.spelled in
    g.lexed.given ∙ ap (λ (all : List Lexeme). all ++ end_of_text text ∷ []) same ∙ sym h.lexed.given

pub one_text : (loops : Bool) (text : List ℕ) (p q : Program) → IsTextOf loops text p → IsTextOf loops text q → p ≡ q
one_text loops text p q g h =
    one_program loops (read_from g.tokens) p q g.read (subst (λ ts. Reads loops (read_from ts) q) (one_tokens text h.tokens g.tokens h.spelled g.spelled) h.read)

-- ---- the end of a text

last_start : (ts : List Lexeme) (end : Lexeme) → start_at (ts ++ end ∷ []) (length ts) ≡ end.start
last_start [] end = refl
last_start (t ∷ ts) end = last_start ts end

one_more : (ts : List Lexeme) (end : Lexeme) → length (ts ++ end ∷ []) ≡ suc (length ts)
one_more [] end = refl
one_more (t ∷ ts) end = ap suc (one_more ts end)

last_place : (ts : List Lexeme) (end : Lexeme) → place_of (ts ++ end ∷ []) 0 ≡ end.start
last_place ts end =
    let long = one_more ts end in
    let at : length (ts ++ end ∷ []) - 1 - 0 ≡ length ts = omega (arith, long) in
    ap (start_at (ts ++ end ∷ [])) at ∙ last_start ts end

pub end_is : (text : List ℕ) (ts : List Lexeme) → IsLexed text ts → place_of ts 0 ≡ length text
end_is text ts l = ap (λ us. place_of us 0) l.given ∙ last_place l.all (end_of_text text)

-- ---- faults of a text that is one of a program

no_bad_byte : (bytes : List ℕ) (at : ℕ) → IsSourceText bytes → FirstBadByte bytes at → ⊥
no_bad_byte bytes at s h =
    let below : get_or bytes at 0 < 128 = All-get_or (λ b. b < 128) bytes at 0 h.within s.ascii in
    let bad = h.bad in
    omega arith

pub source_kind : (kind : FaultKind) (bytes : List ℕ) (at : ℕ) → IsSourceText bytes → RefusedAt kind bytes at → kind ≡ k.OutOfMemory
source_kind k.BadByte bytes at s h = absurd (no_bad_byte bytes at s h)
source_kind k.TooLarge bytes at s h = absurd (let short = s.short in let long = h.long in omega arith)
source_kind k.OutOfMemory bytes at s h = refl
source_kind _ bytes at s h = absurd h

pub token_kind : (kind : FaultKind) (text : List ℕ) (ts : List Lexeme) (fault : Fault) → IsLexed text ts → IsFault kind text fault → kind ≡ k.OutOfMemory
token_kind k.BadToken text ts fault l h = absurd (fault_excludes text k.BadToken fault.span.start l.all h.cause l.spelled)
token_kind k.OpenComment text ts fault l h = absurd (fault_excludes text k.OpenComment fault.span.start l.all h.cause l.spelled)
token_kind k.OutOfMemory text ts fault l h = refl
token_kind _ text ts fault l h = absurd h

pub never_met : (loops : Bool) (ts : List Lexeme) (fault : Fault) (p : Program) → Meets loops ts fault → Reads loops (read_from ts) p → ⊥
never_met loops ts fault p m r = cc (sym (complete_program loops (read_from ts) p r) ∙ m.met)

-- ---- results

module _ (loops : Bool) (text : List ℕ) where
  -- what the parser gives of the tokens of a text is what the text is of
  module _ (ts us : List Lexeme) (spelled : HasTokens text ts) (same : us ≡ ts) where
    text_of : (p : Program) → Reads loops (read_from us) p → IsTextOf loops text p
    text_of p r = record { tokens = ts; spelled = spelled; read = subst (λ xs. Reads loops (read_from xs) p) same r }

    pub read_so : (r : Result Placed Fault) → IfOk r (λ p. Reads loops (read_from us) (program_of p)) → IfOk r (λ p. PlacedIn (before_last us) p) → IfOk r (λ p. p.end ≡ place_of us 0)
        → IfOk r (λ p. IsPlacedTextOf loops text p)
    unfolding text_of
    read_so (Ok p) h g e =
        record { written = text_of (program_of p) h; placed = subst (λ xs. PlacedIn (before_last xs) p) same g; ends = e ∙ ap (λ xs. place_of xs 0) same ∙ end_is text ts spelled.lexed }
    read_so (Err f) h g e = h

    pub read_every : (r : Result Placed Fault) → IfOk r (λ p. Reads loops (read_from us) (program_of p)) → IfErr r (λ f. IsReadFault loops us f)
        → (p : Program) → IsTextOf loops text p → MatchResult r (λ q. program_of q ≡ p) (λ f. f.kind ≡ k.OutOfMemory)
    read_every (Ok q) h e p w = one_text loops text (program_of q) p (text_of (program_of q) h) w
    read_every (Err x) h (inl e) p w = ap (λ (z : Fault). z.kind) e
    read_every (Err x) h (inr m) p w =
        absurd (never_met loops us x p m (subst (λ xs. Reads loops (read_from xs) p) (one_tokens text w.tokens ts w.spelled spelled ∙ sym same) w.read))

  -- the rules of the program of a text
  module _ (tree : Placed) (written : IsPlacedTextOf loops text tree) where
    pub rules_refused : {T : Type 0} (r : Result T Fault) → IfErr r (λ f. (f.kind ≡ k.OutOfMemory) ⊎ FaultAt tree f) → IfErr r (λ f. (f.kind ≡ k.OutOfMemory) ⊎ IsRefusedText loops text f)
    rules_refused (Ok x) h = h
    rules_refused (Err x) (inl h) = inl h
    rules_refused (Err x) (inr h) = inr (inr (record { program = tree; written = written; cause = h }))

    pub rules_every : (r : Result Typed Fault) → Answers typed_of r (typed_program (program_of tree)) → (p : y.Program) → IsTypedAs loops text p → MatchResult r (λ q. typed_of q ≡ p) (λ f. f.kind ≡ k.OutOfMemory)
    rules_every r a p w = at r a (ap typed_program (one_text loops text (program_of tree) w.program written.written w.written) ∙ w.rules)
      where
        at : (r : Result Typed Fault) → Answers typed_of r (typed_program (program_of tree)) → typed_program (program_of tree) ≡ Some p → MatchResult r (λ q. typed_of q ≡ p) (λ f. f.kind ≡ k.OutOfMemory)
        at (Ok q) a e = cc (sym a ∙ e)
        at (Err x) (inl a) e = a
        at (Err x) (inr a) e = absurd (cc (sym a ∙ e))
