use Rattle.std.proofs.Common.{◌≡◌, ◌-◌, ◌++◌, List, [], ◌∷◌, length, take, drop, refl, ap, ◌∙◌, arith, rules, length-drop}
use Rattle.std.specs.Prelude.{slice_set}
use Rattle.call_execution.specs.declared.hinted.Stretch.{Stretch}
use Rattle.call_execution.proofs.hinted.Hinted.add.Goals as goal

-- one item in front of others is written over
in_front : (ys zs : List Stretch) (x : Stretch) → length ys ≡ 1 → slice_set (ys ++ zs) 0 x ≡ x ∷ zs
in_front [] zs x e = absurd (omega arith)
in_front (y ∷ []) zs x e = refl
in_front (y ∷ (w ∷ ws)) zs x e = absurd (omega arith)

-- the last of some is brought to the front and written over
newest : (xs ws : List Stretch) (x : Stretch) → length xs ≡ 8 → ws ≡ drop (length xs - 1) xs ++ take (length xs - 1) xs → slice_set ws 0 x ≡ x ∷ take 7 xs
newest xs ws x e f =
    let seven : length xs - 1 ≡ 7 = omega arith in
    let one : length (drop (length xs - 1) xs) ≡ 1 = simp (length-drop) (omega arith) in
    ap (λ (l : List Stretch). slice_set l 0 x) f ∙ (in_front (drop (length xs - 1) xs) (take (length xs - 1) xs) x one ∙ ap (λ n. x ∷ take n xs) seven)

pub returns-clause-kept : goal.returns-clause-kept
returns-clause-kept c =
    newest c.args.self.now.stretches c.rotate_right.new.self c.args.stretch (search rules) c.rotate_right.ensures.after
