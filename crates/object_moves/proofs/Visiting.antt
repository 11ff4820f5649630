-- Visits, one behind the other, and what an owner did by which it came to an object.
use Rattle.std.proofs.Common.{◌≡◌, ℕ, ◌<◌, true, false, List, [], ◌∷◌, ◌++◌, length, append_assoc, refl, sym, ap, ◌∙◌, subst}
use Rattle.std.specs.Prelude.{MatchResult, Option, Some, None, Result, Ok, Err}
use Rattle.pointer_word.specs.Words.{Away, Coming, Here, Leaving, Place, Word, face, framed}
use Rattle.pointer_word.specs.Calls.{Begins, Claims, Closes, Marks, Opens, Retreats}
use Rattle.object_lock.specs.Plays.{Found as IsFound}
use Rattle.object_lock.specs.Seats.{Sizes, frame_word}
use Rattle.object_lock.specs.Telling.{held}
use Rattle.object_lock.specs.declared.answers.Held.TheVariants as H
use Rattle.object_lock.specs.Logs.{Adds, AddsOne, Deed, deed}
use Rattle.pointer_word.specs.Hands.{Hand, Move, Began, Claimed, Arrived, Unclaimed, Retreated, Marked, Aborted, leaving, marking, releasing}
use Rattle.object_moves.specs.declared.moved.Moved.{Moved}
use Rattle.object_moves.specs.declared.moved.Moved.TheVariants as M
use Rattle.object_moves.specs.Moving.{hand_after}
use Rattle.object_moves.specs.Deeds.{BringsLogged, BringsWith, LeavesLogged, MovesLogged, marks}
use Rattle.object_moves.specs.Visits.{AreServed, LetsLeave, MovesOut, Visit, VisitLogged, VisitsLogged, moves_at, moves_in}
use Rattle.object_moves.specs.Ways.{BehindOpen, Begun, BroughtIn, Comes, ComesByMoves, Course, CourseLogged, Did, Found, GoesOn, LacksRoom, MakesRoom, MakesRoomAt, NotRead, NotWritten, TakeLogged, Way, WayLogged, WayOrClosed, moves_along}

pub moves_in_order : (xs ys : List Visit) → moves_in (xs ++ ys) ≡ moves_in xs ++ moves_in ys
moves_in_order [] ys = refl
moves_in_order (x ∷ xs) ys = ap (λ ms. moves_at x ++ ms) (moves_in_order xs ys) ∙ sym (append_assoc (moves_at x) (moves_in xs) (moves_in ys))

-- what was done before, then by some visits, and then by others
pub then_more : (past between later : List Move) (xs ys : List Visit) → between ≡ past ++ moves_in xs → later ≡ between ++ moves_in ys → later ≡ past ++ moves_in (xs ++ ys)
then_more past between later xs ys e f = f ∙ ap (λ ms. ms ++ moves_in ys) e ∙ append_assoc past (moves_in xs) (moves_in ys) ∙ ap (λ ms. past ++ ms) (sym (moves_in_order xs ys))

-- nothing more was done
pub nothing_more : (ms : List Move) → ms ≡ ms ++ moves_in []
nothing_more [] = refl
nothing_more (m ∷ ms) = ap (λ l. m ∷ l) (nothing_more ms)

pub moved_past : (x : Hand) (o f : ℕ) (r : Moved) (ps : List (ℕ × ℕ)) → (hand_after r (marking x o f) ps).past ≡ x.past ++ moves_in (MovesOut o f r ∷ [])
moved_past x o f M.Left ps = append_assoc (x.past ++ _) _ _ ∙ append_assoc x.past _ _
moved_past x o f M.Stayed ps = append_assoc x.past _ _
moved_past x o f M.Failed ps = append_assoc x.past _ _

pub served_both : (xs ys : List Visit) → AreServed xs → AreServed ys → AreServed (xs ++ ys)
served_both [] ys h k = k
served_both (MovesOut o f M.Left ∷ xs) ys h k = served_both xs ys h k
served_both (MovesOut o f M.Stayed ∷ xs) ys h k = served_both xs ys h k
served_both (MovesOut o f M.Failed ∷ xs) ys h k = absurd h
served_both (LetsLeave f ∷ xs) ys h k = served_both xs ys h k

-- some visits, and then others
pub logged_both : (z : Sizes) (m : ℕ) (xs ys : List Visit) (old mid new : List Deed) → VisitsLogged z m xs old mid → VisitsLogged z m ys mid new → VisitsLogged z m (xs ++ ys) old new
logged_both z m [] ys old mid new a b = subst (λ (ds : List Deed). VisitsLogged z m ys ds new) a b
logged_both z m (x ∷ xs) ys old mid new a b = (a.0, a.1, logged_both z m xs ys a.0 mid new a.2 b)

-- one visit
pub logged_once : (z : Sizes) (m : ℕ) (x : Visit) (old new : List Deed) → VisitLogged z m x old new → VisitsLogged z m (x ∷ []) old new
logged_once z m x old new a = (new, a, refl)

-- an object was marked, and this became of it
pub visit_logged : (z : Sizes) (m o f : ℕ) (r : Moved) (old mid new : List Deed) → o < z.objects → f < z.frames → Adds old mid o (Marks m o f) (λ n. n ≡ face (Here f false) 0) → ((ws : List ℕ) × (length ws ≡ z.cells) × MovesLogged z m o f ws r mid new)
    → VisitLogged z m (MovesOut o f r) old new
visit_logged z m o f r old mid new near low a b =
    let marked : mid ≡ old ++ marks m o f ∷ [] = a.1 ∙ ap (λ (n : ℕ). old ++ deed o n (Marks m o f) ∷ []) a.2 in
    (near, low, b.0, b.1, subst (λ (ds : List Deed). MovesLogged z m o f b.0 r ds new) marked b.2)

-- ---- room is made

pub room_none : (z : Sizes) (m : ℕ) (before after : Did) → after ≡ before → MakesRoom z m before after
room_none z m before after e = record { visits = []; served = tt; did = ap (λ (d : Did). d.past) e ∙ nothing_more before.past; logged = ap (λ (d : Did). d.log) e }

pub room_both : (z : Sizes) (m : ℕ) (before between after : Did) → MakesRoom z m before between → MakesRoom z m between after → MakesRoom z m before after
room_both z m before between after x y = record {
  visits = x.visits ++ y.visits;
  served = served_both x.visits y.visits x.served y.served;
  did = then_more before.past between.past after.past x.visits y.visits x.did y.did;
  logged = logged_both z m x.visits y.visits before.log between.log after.log x.logged y.logged;
}

pub room_clean : (z : Sizes) (m : ℕ) (x : Hand) (old new : List Deed) (after : List Move) (o f : ℕ) → after ≡ (releasing (leaving x f)).past → o < z.objects → f < z.frames → LeavesLogged z m o f true old new
    → MakesRoom z m (record { past = x.past; log = old }) (record { past = after; log = new })
room_clean z m x old new after o f e near low l = record { visits = LetsLeave f ∷ []; served = tt; did = e ∙ append_assoc x.past _ _; logged = logged_once z m (LetsLeave f) old new (o, near, low, l) }

pub room_left : (z : Sizes) (m : ℕ) (x y : Hand) (old new : List Deed) (o f : ℕ) (ps : List (ℕ × ℕ)) → y ≡ hand_after M.Left (marking x o f) ps → VisitLogged z m (MovesOut o f M.Left) old new
    → MakesRoom z m (record { past = x.past; log = old }) (record { past = y.past; log = new })
room_left z m x y old new o f ps e l = record { visits = MovesOut o f M.Left ∷ []; served = tt; did = ap (λ (h : Hand). h.past) e ∙ moved_past x o f M.Left ps; logged = logged_once z m (MovesOut o f M.Left) old new l }

pub room_stayed : (z : Sizes) (m : ℕ) (x y : Hand) (old new : List Deed) (o f : ℕ) (ps : List (ℕ × ℕ)) → y ≡ hand_after M.Stayed (marking x o f) ps → VisitLogged z m (MovesOut o f M.Stayed) old new
    → MakesRoom z m (record { past = x.past; log = old }) (record { past = y.past; log = new })
room_stayed z m x y old new o f ps e l = record { visits = MovesOut o f M.Stayed ∷ []; served = tt; did = ap (λ (h : Hand). h.past) e ∙ moved_past x o f M.Stayed ps; logged = logged_once z m (MovesOut o f M.Stayed) old new l }

pub room_lacked : (z : Sizes) (m : ℕ) (x y : Hand) (old new : List Deed) (o f : ℕ) (ps : List (ℕ × ℕ)) → y ≡ hand_after M.Failed (marking x o f) ps → VisitLogged z m (MovesOut o f M.Failed) old new
    → LacksRoom z m (record { past = x.past; log = old }) (record { past = y.past; log = new })
room_lacked z m x y old new o f ps e l = record { visits = []; served = tt; object = o; frame = f; did = ap (λ (h : Hand). h.past) e ∙ moved_past x o f M.Failed ps; logged = (old, refl, l) }

-- what was done before, then by some visits, and then besides
then_others : (past between later : List Move) (xs ys : List Visit) (ms : List Move) → between ≡ past ++ moves_in xs → later ≡ between ++ (moves_in ys ++ ms) → later ≡ past ++ (moves_in (xs ++ ys) ++ ms)
then_others past between later xs ys ms e f =
    f ∙ ap (λ l. l ++ (moves_in ys ++ ms)) e ∙ append_assoc past (moves_in xs) (moves_in ys ++ ms)
    ∙ ap (λ l. past ++ l) (sym (append_assoc (moves_in xs) (moves_in ys) ms)) ∙ ap (λ l. past ++ (l ++ ms)) (sym (moves_in_order xs ys))

pub lacks_behind : (z : Sizes) (m : ℕ) (before between after : Did) → MakesRoom z m before between → LacksRoom z m between after → LacksRoom z m before after
lacks_behind z m before between after x y = record {
  visits = x.visits ++ y.visits;
  served = served_both x.visits y.visits x.served y.served;
  object = y.object;
  frame = y.frame;
  did = then_others before.past between.past after.past x.visits y.visits _ x.did y.did;
  logged = (y.logged.0, logged_both z m x.visits y.visits before.log between.log y.logged.0 x.logged y.logged.1, y.logged.2);
}

pub claims_behind : (z : Sizes) (m o f : ℕ) (before between after : Did) → MakesRoom z m before between → MakesRoomAt z m o f between after → MakesRoomAt z m o f before after
claims_behind z m o f before between after x y = record {
  visits = x.visits ++ y.visits;
  served = served_both x.visits y.visits x.served y.served;
  did = then_others before.past between.past after.past x.visits y.visits _ x.did y.did;
  logged = (y.logged.0, logged_both z m x.visits y.visits before.log between.log y.logged.0 x.logged y.logged.1, y.logged.2);
}

pub claims_first : (z : Sizes) (m o f : ℕ) (before after : Did) → after.past ≡ before.past ++ Claimed f ∷ [] → Adds before.log after.log (frame_word z f) (Claims m o f) (λ n. n ≡ 0) → MakesRoomAt z m o f before after
claims_first z m o f before after e l = record { visits = []; served = tt; did = e; logged = (before.log, refl, l.1 ∙ ap (λ (n : ℕ). before.log ++ deed (frame_word z f) n (Claims m o f) ∷ []) l.2) }

-- ---- an object is brought in

-- to the end of what was done comes something
at_the_end : (past after : List Move) (vs : List Visit) (ms ns : List Move) → after ≡ past ++ (moves_in vs ++ ms) → after ++ ns ≡ past ++ (moves_in vs ++ (ms ++ ns))
at_the_end past after vs ms ns e =
    ap (λ l. l ++ ns) e ∙ append_assoc past (moves_in vs ++ ms) ns ∙ ap (λ l. past ++ l) (append_assoc (moves_in vs) ms ns)

pub arrives_so : (honest : Type 0) (z : Sizes) (m o f : ℕ) (promised : List ℕ) (before between after : Did) → MakesRoomAt z m o f before between → after.past ≡ between.past ++ Arrived ∷ []
    → BringsLogged honest z m o f true promised true between.log after.log → GoesOn z m o (Some f) before after
arrives_so honest z m o f promised before between after x e l = record {
  course = BroughtIn x.visits f;
  leads = (x.served, refl);
  did = e ∙ at_the_end before.past between.past x.visits (Claimed f ∷ []) (Arrived ∷ []) x.did;
  logged = (x.logged.0, l.0, x.logged.1, subst (λ (ds : List Deed). BringsWith z m o f true l.0 true ds after.log) x.logged.2 l.2);
}

pub not_read : (honest : Type 0) (z : Sizes) (m o f : ℕ) (promised : List ℕ) (before between after : Did) → MakesRoomAt z m o f before between → after.past ≡ (between.past ++ Unclaimed ∷ []) ++ Retreated ∷ []
    → BringsLogged honest z m o f true promised false between.log after.log → GoesOn z m o None before after
not_read honest z m o f promised before between after x e l = record {
  course = NotRead x.visits f;
  leads = x.served;
  did = e ∙ append_assoc between.past _ _ ∙ at_the_end before.past between.past x.visits (Claimed f ∷ []) (Unclaimed ∷ Retreated ∷ []) x.did;
  logged = (x.logged.0, x.logged.1, subst (λ (ds : List Deed). BringsWith z m o f true l.0 false ds after.log) x.logged.2 l.2);
}

pub not_written : (z : Sizes) (m o : ℕ) (before between after : Did) → LacksRoom z m before between → after.past ≡ between.past ++ Retreated ∷ [] → AddsOne between.log after.log o (Retreats m o) → GoesOn z m o None before after
not_written z m o before between after x e l = record {
  course = NotWritten x.visits x.object x.frame;
  leads = x.served;
  did = e ∙ at_the_end before.past between.past x.visits (Marked x.object x.frame ∷ Aborted ∷ []) (Retreated ∷ []) x.did;
  logged = (x.logged.0, between.log, x.logged.1, x.logged.2, l);
}

-- ---- an owner comes to an object

pub comes_found : (Logs : Way → List Deed → List Deed → Type 0) (o f : ℕ) (before after : Did) → after.past ≡ before.past → Logs Found before.log after.log → Comes Logs o (Some f) before after
comes_found Logs o f before after e l = record { way = Found; leads = tt; did = e ∙ nothing_more before.past; logged = l }

in_frame : (p : Place) (f : ℕ) → H.Here f ≡ held p → framed p ≡ Some f
in_frame Away f e = cc
in_frame (Coming m) f e = cc
in_frame (Here g k) f e = cc
in_frame (Leaving g m k) f e = cc

-- a hold that was opened found the object in a frame
pub comes_here : (z : Sizes) (m o c f n : ℕ) (w : Word) (before after : Did) → after.past ≡ before.past → after.log ≡ before.log ++ deed o n (Opens o) ∷ [] → IsFound z w n → w.count ≡ c → H.Here f ≡ held w.place
    → Comes (TakeLogged z m o c (Some f)) o (Some f) before after
comes_here z m o c f n w before after e l found counted here =
    let opened = before.log ++ deed o n (Opens o) ∷ [] in
    comes_found (TakeLogged z m o c (Some f)) o f before after e
    (n, w, found, counted, subst (λ r. BehindOpen z m o c r (Some f) Found opened after.log) (sym (in_frame w.place f here)) (refl, refl, l))

begun_logged : (z : Sizes) (m o c : ℕ) (r : Option ℕ) (k : Course) (old mid new : List Deed) → Adds old mid o (Begins m o c true) (λ n. n ≡ c) → CourseLogged z m o k mid new → WayLogged z m o c r (Begun k) old new
begun_logged z m o c None k old mid new a l = subst (λ (ds : List Deed). CourseLogged z m o k ds new) (a.1 ∙ ap (λ (n : ℕ). old ++ deed o n (Begins m o c true) ∷ []) a.2) l
begun_logged z m o c (Some f) k old mid new a l = subst (λ (ds : List Deed). CourseLogged z m o k ds new) (a.1 ∙ ap (λ (n : ℕ). old ++ deed o n (Begins m o c true) ∷ []) a.2) l

pub comes_begun : (z : Sizes) (m o c : ℕ) (r : Option ℕ) (before between after : Did) → between.past ≡ before.past ++ Began o ∷ [] → Adds before.log between.log o (Begins m o c true) (λ n. n ≡ c) → GoesOn z m o r between after
    → Comes (WayLogged z m o c r) o r before after
comes_begun z m o c r before between after e a x = record {
  way = Begun x.course;
  leads = x.leads;
  did = x.did ∙ ap (λ l. l ++ moves_along x.course) e ∙ append_assoc before.past _ _;
  logged = begun_logged z m o c r x.course before.log between.log after.log a x.logged;
}

-- the object that was fetched is there
pub comes_there : (z : Sizes) (m o c f : ℕ) (before after : Did) → Comes (WayLogged z m o c (Some f)) o (Some f) before after → Comes (WayOrClosed z m o c (Some f)) o (Some f) before after
comes_there z m o c f before after x = record { way = x.way; leads = x.leads; did = x.did; logged = x.logged }

-- or the hold was closed again
pub comes_closed : (z : Sizes) (m o c : ℕ) (before between after : Did) → Comes (WayLogged z m o c None) o None before between → after.past ≡ between.past → AddsOne between.log after.log o (Closes o) → Comes (WayOrClosed z m o c None) o None before after
comes_closed z m o c before between after x e l = record { way = x.way; leads = x.leads; did = e ∙ x.did; logged = (between.log, x.logged, l) }

-- its moves alone
pub comes_by_moves : (Logs : Way → List Deed → List Deed → Type 0) (o : ℕ) (r : Option ℕ) (before after : Did) → Comes Logs o r before after → ComesByMoves o r before.past after.past
comes_by_moves Logs o r before after x = record { way = x.way; leads = x.leads; did = x.did; logged = tt }

-- room was made, and then more, or the store refused a put
pub room_or_lack : {A E : Type 0} (r : Result A E) (z : Sizes) (m : ℕ) (before between after : Did) → MakesRoom z m before between → MatchResult r (λ _. MakesRoom z m between after) (λ _. LacksRoom z m between after)
    → MatchResult r (λ _. MakesRoom z m before after) (λ _. LacksRoom z m before after)
room_or_lack (Ok x) z m before between after a b = room_both z m before between after a b
room_or_lack (Err x) z m before between after a b = lacks_behind z m before between after a b
