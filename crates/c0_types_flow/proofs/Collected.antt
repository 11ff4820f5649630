-- Texts and calls among what a program names.
use Rattle.std.proofs.Common.{◌≡◌, ℕ, ◌+◌, ◌<◌, List, [], ◌∷◌, ◌++◌, length, get_or, drop, refl, sym, ap, ◌∙◌, Bool, true, false}
use Rattle.std.specs.Prelude.{◌&&◌, ◌||◌, not, filter_map, IfOk, Result}
use Rattle.std.proofs.lemmas.Result.{IfOk-weaker}
use Rattle.std.specs.List.{list_all, list_any}
use mathlib.Core.List.{append_assoc}
use Rattle.std.proofs.lemmas.List.{drop_more}
use Rattle.std.proofs.lemmas.List.Elements.{filter_map-append}
use Rattle.c0_source.specs.declared.fault.Fault.{Fault}
use Rattle.c0_rules.specs.Types.{Name, Environment, is_ascii}
use Rattle.c0_rules.specs.Mentions.{Mention, OfVariable, OfFunction, OfText, text_of, function_of}
use Rattle.c0_rules.specs.Programs.{is_callable}
use Rattle.c0_rules.specs.FaultPrograms.{is_undefined}
use Rattle.c0_types_flow.specs.FlowViews.{is_unknown_to, is_beyond_ascii}

-- ---- texts in order

abbrev texts : List Mention → List Name
texts ms = filter_map text_of ms

-- those of one part and then of another
pub two_texts : (old mid new : List Name) (ms ns : List Mention) → mid ≡ old ++ texts ms → new ≡ mid ++ texts ns → new ≡ old ++ texts (ms ++ ns)
two_texts old mid new ms ns e h = h ∙ ap (λ z. z ++ texts ns) e ∙ append_assoc old (texts ms) (texts ns) ∙ ap (λ z. old ++ z) (sym (filter_map-append text_of ms ns))

pub three_texts : (old mid far new : List Name) (ms ns ks : List Mention) → mid ≡ old ++ texts ms → far ≡ mid ++ texts ns → new ≡ far ++ texts ks → new ≡ old ++ texts (ms ++ ns ++ ks)
three_texts old mid far new ms ns ks e h k = two_texts old far new (ms ++ ns) ks (two_texts old mid far ms ns e h) k

-- the same, where the last part may be refused; `all` is what the whole names
module _ {T E : Type 0} (r : Result T E) (all : List Mention) (ms ns : List Mention) where
  pub two_or_refused : all ≡ ms ++ ns → (old mid new : List Name) → mid ≡ old ++ texts ms → IfOk r (λ _. new ≡ mid ++ texts ns) → IfOk r (λ _. new ≡ old ++ texts all)
  two_or_refused whole old mid new e h =
      IfOk-weaker r (λ _. new ≡ mid ++ texts ns) (λ _. new ≡ old ++ texts all) (λ _ k. two_texts old mid new ms ns e k ∙ ap (λ z. old ++ texts z) (sym whole)) h

  pub three_or_refused : (ks : List Mention) → all ≡ ms ++ ns ++ ks → (old mid far new : List Name) → mid ≡ old ++ texts ms → far ≡ mid ++ texts ns → IfOk r (λ _. new ≡ far ++ texts ks) → IfOk r (λ _. new ≡ old ++ texts all)
  three_or_refused ks whole old mid far new e h k =
      IfOk-weaker r (λ _. new ≡ far ++ texts ks) (λ _. new ≡ old ++ texts all) (λ _ z. three_texts old mid far new ms ns ks e h z ∙ ap (λ z. old ++ texts z) (sym whole)) k

-- those of the first part that is left, and then of the rest
pub texts_step : {A : Type 0} (part : A → List Mention) (parts : List A → List Mention) → ((x : A) (xs : List A) → parts (x ∷ xs) ≡ part x ++ parts xs)
    → (xs : List A) (i : ℕ) (x : A) → i < length xs → x ≡ get_or xs i x → (old new : List Name) → new ≡ old ++ texts (part x) → new ++ texts (parts (drop (i + 1) xs)) ≡ old ++ texts (parts (drop i xs))
texts_step part parts split xs i x l e old new h =
    two_texts old new (new ++ texts (parts (drop (i + 1) xs))) (part x) (parts (drop (i + 1) xs)) h refl
    ∙ ap (λ z. old ++ texts (part z ++ parts (drop (i + 1) xs))) e
    ∙ ap (λ z. old ++ texts z) (sym (split (get_or xs i x) (drop (i + 1) xs)))
    ∙ ap (λ z. old ++ texts (parts z)) (sym (drop_more xs i x l))

-- ---- tests

neither : (a b : Bool) → not (not a || b) ≡ (a && not b)
neither true b = refl
neither false b = refl

-- where no text goes beyond ASCII, all are of it
pub texts_are : (ms : List Mention) → not (list_any is_beyond_ascii ms) ≡ list_all is_ascii (filter_map text_of ms)
texts_are [] = refl
texts_are (OfText x ∷ ms) = neither (is_ascii x) (list_any is_beyond_ascii ms) ∙ ap (λ z. is_ascii x && z) (texts_are ms)
texts_are (OfVariable n ∷ ms) = texts_are ms
texts_are (OfFunction n ∷ ms) = texts_are ms

-- where no call is unknown, all are known
pub calls_are : (env : Environment) (ms : List Mention) → not (list_any (is_unknown_to env) ms) ≡ list_all (is_callable env) (filter_map function_of ms)
calls_are env [] = refl
calls_are env (OfFunction n ∷ ms) = neither (is_callable env n) (list_any (is_unknown_to env) ms) ∙ ap (λ z. is_callable env n && z) (calls_are env ms)
calls_are env (OfVariable n ∷ ms) = calls_are env ms
calls_are env (OfText n ∷ ms) = calls_are env ms

pub all_unknown : (env : Environment) (fault : Fault) → is_unknown_to env ≡ is_undefined fault env
all_unknown env fault = λ i m. unknown m i
  where
    unknown : (m : Mention) → is_unknown_to env m ≡ is_undefined fault env m
    unknown (OfFunction n) = refl
    unknown (OfVariable n) = refl
    unknown (OfText n) = refl
