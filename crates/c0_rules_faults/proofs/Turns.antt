-- The flows that meet where a turn ends, one by one and as a list.
use Rattle.std.proofs.Common.{◌≡◌, Bool, true, false, List, [], ◌∷◌, ◌++◌, refl, sym, ap, ◌∙◌}
use Rattle.std.specs.Prelude.{◌&&◌, ◌||◌, cond, filter, bytes_eq}
use Rattle.std.specs.List.{list_any}
use Rattle.c0_syntax.specs.Trees.{Statement, Block, If, IfElse, Continue, Statements, nothing, also}
use Rattle.c0_rules.specs.Types.{Name, is_among}
use Rattle.c0_rules.specs.Assignment.{Flow, Ended, Reached, joined, after_statement, after_body, continued, some_continued}
use Rattle.c0_rules.proofs.Rules.{same_name_is}
use Rattle.c0_rules_faults.specs.Turns.{lacks, turn_ends, turn_ends_among, ThirdPartSees}

and_false : (b : Bool) → false ≡ (b && false)
and_false true = refl
and_false false = refl

or_false : (b : Bool) → b ≡ (b || false)
or_false true = refl
or_false false = refl

-- ---- what is kept of a list of names

kept_one : (p : Name → Bool) (n m : Name) (ms : List Name) → is_among n (filter p ms) ≡ (is_among n ms && p n)
    → (b c : Bool) → p m ≡ b → bytes_eq n m ≡ c → is_among n (cond b (m ∷ filter p ms) (filter p ms)) ≡ ((c || is_among n ms) && p n)
kept_one p n m ms h true true e q = ap (λ z. z || is_among n (filter p ms)) q ∙ sym (ap p (same_name_is n m q) ∙ e)
kept_one p n m ms h true false e q = ap (λ z. z || is_among n (filter p ms)) q ∙ h
kept_one p n m ms h false true e q =
    let fails : p n ≡ false = ap p (same_name_is n m q) ∙ e in h ∙ ap (λ z. is_among n ms && z) fails ∙ sym (and_false (is_among n ms)) ∙ sym fails
kept_one p n m ms h false false e q = h

kept : (p : Name → Bool) (n : Name) (ms : List Name) → is_among n (filter p ms) ≡ (is_among n ms && p n)
kept p n [] = refl
kept p n (m ∷ ms) = kept_one p n m ms (kept p n ms) (p m) (bytes_eq n m) refl refl

-- what is lacking where two flows meet
met_at : (names : List Name) (f g : Flow) (n : Name) → lacks n (joined (Reached names) f g) ≡ (is_among n names && (lacks n f || lacks n g))
met_at names Ended Ended n = and_false (is_among n names)
met_at names Ended (Reached second) n = kept (λ k. is_among k second) n names
met_at names (Reached first) Ended n = kept (λ k. is_among k first) n names ∙ ap (λ z. is_among n names && z) (or_false (is_among n first))
met_at names (Reached first) (Reached second) n = kept (λ k. is_among k first || is_among k second) n names

-- ---- tests of lists

or_next : (a b c : Bool) → (a || (b || c)) ≡ ((a || b) || c)
or_next true b c = refl
or_next false b c = refl

any_of_both : (p : Flow → Bool) (fs gs : List Flow) → list_any p (fs ++ gs) ≡ (list_any p fs || list_any p gs)
any_of_both p [] gs = refl
any_of_both p (f ∷ fs) gs = ap (λ z. p f || z) (any_of_both p fs gs) ∙ or_next (p f) (list_any p fs) (list_any p gs)

-- ---- the fold

module _ (names : List Name) (n : Name) where
  -- so much of a flow counts: whether it lacks a local that lacked a value at the body's start
  abbrev counts : Bool → Bool
  counts b = is_among n names && b

  abbrev ends : List Flow → Bool
  ends fs = list_any (lacks n) fs

  -- one after the other
  two : (e d last first met : Bool) → counts last ≡ counts (first || e) → counts first ≡ counts (met || d) → counts last ≡ counts (met || (d || e))
  two e d last first met h k = h ∙ at (is_among n names) first (met || d) e k ∙ ap counts (sym (or_next met d e))
    where
      at : (a b c e : Bool) → (a && b) ≡ (a && c) → (a && (b || e)) ≡ (a && (c || e))
      at true b c e q = ap (λ z. z || e) q
      at false b c e q = refl

  -- ... for lists one behind the other
  row : (fs gs : List Flow) (last first met : Bool) → counts last ≡ counts (first || ends gs) → counts first ≡ counts (met || ends fs) → counts last ≡ counts (met || ends (fs ++ gs))
  row fs gs last first met h k = two (ends gs) (ends fs) last first met h k ∙ ap (λ z. counts (met || z)) (sym (any_of_both (lacks n) fs gs))

  mutual
    folded : (a : Statement) (f met : Flow) → counts (lacks n (continued (Reached names) a f met)) ≡ counts (lacks n met || ends (turn_ends a f))
    folded Continue f met = ap counts (met_at names met f n) ∙ at (is_among n names) (lacks n met) (lacks n f)
      where
        at : (a b c : Bool) → (a && (a && (b || c))) ≡ (a && (b || (c || false)))
        at true true c = refl
        at true false c = or_false c
        at false b c = refl
    folded (Block rest) f met = folded_among rest f met
    folded (If c a) f met = folded a f met
    folded (IfElse c a b) f met = row (turn_ends a f) (turn_ends b f) _ _ (lacks n met) (folded b f (continued (Reached names) a f met)) (folded a f met)
    folded _ f met = ap counts (or_false (lacks n met))

    folded_among : (ss : Statements) (f met : Flow) → counts (lacks n (some_continued (Reached names) ss f met)) ≡ counts (lacks n met || ends (turn_ends_among ss f))
    folded_among nothing f met = ap counts (or_false (lacks n met))
    folded_among (also a rest) f met =
        row (turn_ends a f) (turn_ends_among rest (after_statement a f)) _ _ (lacks n met) (folded_among rest (after_statement a f) (continued (Reached names) a f met)) (folded a f met)

  sees : (a : Statement) → lacks n (after_body a (Reached names)) ≡ counts (lacks n (after_statement a (Reached names)) || ends (turn_ends a (Reached names)))
  sees a =
      met_at names (after_statement a (Reached names)) (continued (Reached names) a (Reached names) Ended) n
      ∙ at (is_among n names) (lacks n (after_statement a (Reached names))) _ _ (folded a (Reached names) Ended)
    where
      at : (x b c d : Bool) → (x && c) ≡ (x && d) → (x && (b || c)) ≡ (x && (b || d))
      at true b c d q = ap (λ z. b || z) q
      at false b c d q = refl

pub third_part_sees : ThirdPartSees
third_part_sees a names n = sees names n a
