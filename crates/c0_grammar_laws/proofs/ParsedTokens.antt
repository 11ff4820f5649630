-- The tokens of a text, as the parser takes them.
use Rattle.std.proofs.Common.{◌≡◌, ℕ, zero, suc, ◌+◌, ◌-◌, ◌<◌, ◌≤◌, Bool, List, [], ◌∷◌, length, map, take, drop, get_or, refl, sym, subst, inl, inr, arith}
use Rattle.std.specs.Prelude.{All}
use Rattle.std.proofs.lemmas.List.{length-map, take-map}
use Rattle.std.proofs.lemmas.List.Elements.{All-take, All-drop}
use Rattle.c0_source.specs.SourceTexts.{IsSourceText}
use Rattle.c0_source.specs.Spelling.{AreSlices, Lexeme, Rise}
use Rattle.c0_lexer.specs.declared.token.Token.{Token}
use Rattle.c0_lexer.specs.Lexed.{lexeme}
use Rattle.c0_source.specs.declared.fault.FaultKind.TheVariants as f
use Rattle.c0_syntax.specs.Trees.{Program}
use Rattle.c0_syntax.specs.Programs.{Reads}
use Rattle.c0_grammar_laws.specs.declared.read_error.ReadError.{ReadError}
use Rattle.c0_grammar_laws.specs.declared.read_error.ReadError.TheVariants.{OutOfMemory, Syntax, TooDeep, TooLarge}
use Rattle.c0_grammar_laws.specs.Outcome.{Fails}
use Rattle.c0_grammar_laws.specs.ReadPrograms.{read_program}
use Rattle.c0_grammar_laws.specs.Tokens.{AreTokens}
use Rattle.c0_grammar_laws.specs.Parsing.{IsReadFault, before_last, fault_by, read_from, start_at}
use Rattle.c0_grammar_laws.proofs.SoundPrograms.{fault_excludes}

pub are_taken : (n : ℕ) (ts : List Lexeme) → AreTokens ts → AreTokens (take n ts)
are_taken zero ts h = tt
are_taken (suc n) [] h = tt
are_taken (suc n) (t ∷ ts) h = (h.0, are_taken n ts h.1)

pub start_is : (ts : List Token) (i : ℕ) (d : Token) → i < length ts → start_at (map lexeme ts) i ≡ (get_or ts i d).start
start_is [] i d lt = absurd (omega arith)
start_is (t ∷ ts) zero d lt = refl
start_is (t ∷ ts) (suc i) d lt = start_is ts i d (omega arith)

pub start_past : (ts : List Token) (i : ℕ) → length ts ≤ i → start_at (map lexeme ts) i ≡ 0
start_past [] i le = refl
start_past (t ∷ ts) zero le = absurd (omega arith)
start_past (t ∷ ts) (suc i) le = start_past ts i (omega arith)

pub start_small : (ts : List Lexeme) (i : ℕ) → AreTokens ts → start_at ts i ≤ 1048576
start_small [] i h = omega arith
start_small (t ∷ ts) zero h = let p = h.0.placed in omega arith
start_small (t ∷ ts) (suc i) h = start_small ts i h.1

rise_low : (from end : ℕ) (ts : List Lexeme) → Rise from end ts → from ≤ end
rise_low from end [] h = h
rise_low from end (t ∷ ts) h = let le = rise_low (t.start + length t.text) end ts h.1 in let lo = h.0 in omega arith

-- what the lexer says of its tokens makes them tokens of a text
pub lexed : (bytes : List ℕ) (from : ℕ) (ts : List Lexeme) → IsSourceText bytes → AreSlices bytes ts → Rise from (length bytes) ts → AreTokens ts
lexed bytes from [] s a r = tt
lexed bytes from (t ∷ ts) s a r =
    let ascii : All (λ b. b < 128) t.text = subst (λ (x : List ℕ). All (λ b. b < 128) x) (sym a.0) (All-take (λ b. b < 128) (length t.text) (drop t.start bytes) (All-drop (λ b. b < 128) t.start bytes s.ascii)) in
    let low = rise_low (t.start + length t.text) (length bytes) ts r.1 in
    let short = s.short in
    (record { ascii = ascii; placed = omega arith }, lexed bytes (t.start + length t.text) ts s a.1 r.1)

-- ---- what is told

pub told_refuses : (loops : Bool) (ts : List Lexeme) (e : ReadError) → Fails e (read_program loops (read_from ts)) → ((fault_by ts e).kind ≡ f.OutOfMemory → ⊥) → (p : Program) → Reads loops (read_from ts) p → ⊥
told_refuses loops ts OutOfMemory h n p r = n refl
told_refuses loops ts (Syntax k) h n p r = fault_excludes loops (read_from ts) p (Syntax k) h r
told_refuses loops ts (TooDeep k) h n p r = fault_excludes loops (read_from ts) p (TooDeep k) h r
told_refuses loops ts (TooLarge k) h n p r = fault_excludes loops (read_from ts) p (TooLarge k) h r

pub told_fault : (loops : Bool) (ts : List Lexeme) (e : ReadError) → Fails e (read_program loops (read_from ts)) → IsReadFault loops ts (fault_by ts e)
told_fault loops ts OutOfMemory h = inl refl
told_fault loops ts (Syntax k) h = inr (record { error = Syntax k; met = h; told = refl })
told_fault loops ts (TooDeep k) h = inr (record { error = TooDeep k; met = h; told = refl })
told_fault loops ts (TooLarge k) h = inr (record { error = TooLarge k; met = h; told = refl })

pub last_left : (ts : List Token) → map lexeme (take (length ts - 1) ts) ≡ before_last (map lexeme ts)
last_left ts = let e : length (map lexeme ts) ≡ length ts = length-map ts lexeme in rw (e, take-map) refl
