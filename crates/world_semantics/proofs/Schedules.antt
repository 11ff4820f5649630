-- the worked schedules, by computing
use Rattle.std.proofs.Common.{◌≡◌, Some, None, [], ◌∷◌, ◌++◌, refl}
use Rattle.std.specs.Prelude.{pos}
use Rattle.cells.specs.Stops.{Ended, NullFault}
use Rattle.cells.specs.declared.ending.Want.TheVariants.{StoreFailed}
use Rattle.world_semantics.specs.Rows.{Reliable, NoPuts, NoReads, five, faulty, two_objects, two_written, row, times, e0, p0, e0_mark, e0_leave, written, brought_back, brought_back_later, left_clean, read_meanwhile, held_meanwhile, put_failed, get_failed, holding_one, left_itself, moved_itself, failed_itself, f0, f0_begin, five_fetched, put_away, brought_by, fetched_first, given_up, fetch_failed, opened_first, begun_first}

pub brought : row (five Reliable) (brought_back ++ p0 ∷ []) ≡ (214, Some (record { stop = Some (Ended (pos 5)); want = None; word = 0x1000000000180000; first = 5; second = 5 }))
brought = refl

pub not_yet : row (five Reliable) brought_back ≡ (213, Some (record { stop = None; want = None; word = 0x1000000000180000; first = 5; second = 5 }))
not_yet = refl

pub read : row (five Reliable) read_meanwhile ≡ (146, Some (record { stop = Some (Ended (pos 5)); want = None; word = 0; first = 5; second = 0 }))
read = refl

pub held : row (five Reliable) held_meanwhile ≡ (146, Some (record { stop = Some (Ended (pos 5)); want = None; word = 0x80000; first = 5; second = 0 }))
held = refl

pub idle : row (five Reliable) (written ++ e0 ∷ []) ≡ (75, None)
idle = refl

pub no_frame : row (five Reliable) (written ++ e0_mark 0 2 ∷ []) ≡ (75, None)
no_frame = refl

pub elsewhere : row (five Reliable) (written ++ e0_mark 0 1 ∷ []) ≡ (75, Some (record { stop = None; want = None; word = 0x80000; first = 5; second = 0 }))
elsewhere = refl

pub no_put : row (five NoPuts) put_failed ≡ (145, Some (record { stop = Some (Ended (pos 5)); want = None; word = 0x80000; first = 5; second = 0 }))
no_put = refl

pub no_get : row (five NoReads) get_failed ≡ (149, Some (record { stop = None; want = Some StoreFailed; word = 0; first = 5; second = 0 }))
no_get = refl

pub no_more : row (five NoReads) (get_failed ++ p0 ∷ []) ≡ (150, None)
no_more = refl

pub closes : row faulty (holding_one ++ p0 ∷ []) ≡ (71, Some (record { stop = None; want = None; word = 0x1000000000080000; first = 0; second = 0 }))
closes = refl

pub stops : row faulty (holding_one ++ times 2 p0) ≡ (72, Some (record { stop = Some NullFault; want = None; word = 0x1000000000080000; first = 0; second = 0 }))
stops = refl

pub leaves : row (two_objects Reliable) left_itself ≡ (144, Some (record { stop = Some (Ended (pos 5)); want = None; word = 0; first = 0; second = 0 }))
leaves = refl

pub moves : row (two_written Reliable) moved_itself ≡ (212, Some (record { stop = Some (Ended (pos 5)); want = None; word = 0; first = 0; second = 0 }))
moves = refl

pub fails : row (two_written NoPuts) failed_itself ≡ (145, Some (record { stop = None; want = Some StoreFailed; word = 0x80000; first = 5; second = 0 }))
fails = refl

pub fetched : row (five_fetched Reliable) fetched_first ≡ (214, Some (record { stop = Some (Ended (pos 5)); want = None; word = 0x1000000000180000; first = 5; second = 5 }))
fetched = refl

pub comes : row (five_fetched Reliable) brought_by ≡ (210, Some (record { stop = None; want = None; word = 0x1000000000180000; first = 5; second = 5 }))
comes = refl

pub gives_up : row (five_fetched Reliable) given_up ≡ (144, Some (record { stop = None; want = None; word = 0; first = 5; second = 0 }))
gives_up = refl

pub idle_again : row (five_fetched Reliable) (given_up ++ f0 ∷ []) ≡ (145, None)
idle_again = refl

pub opens : row (five_fetched Reliable) opened_first ≡ (144, Some (record { stop = None; want = None; word = 1; first = 5; second = 0 }))
opens = refl

pub none_begun : row (five_fetched Reliable) (opened_first ++ f0 ∷ []) ≡ (145, None)
none_begun = refl

pub begins : row (five_fetched Reliable) begun_first ≡ (146, Some (record { stop = None; want = None; word = 1; first = 5; second = 0 }))
begins = refl

pub no_fetch : row (five_fetched NoReads) fetch_failed ≡ (148, Some (record { stop = None; want = None; word = 1; first = 5; second = 0 }))
no_fetch = refl

pub nobody : row (five Reliable) (put_away ++ f0_begin 0 ∷ []) ≡ (143, None)
nobody = refl

pub later : row (five Reliable) brought_back_later ≡ (215, Some (record { stop = Some (Ended (pos 5)); want = None; word = 0x1000000000180000; first = 5; second = 5 }))
later = refl

pub not_left : row (five Reliable) (written ++ e0_leave 0 0 ∷ []) ≡ (75, Some (record { stop = None; want = None; word = 0x80000; first = 5; second = 0 }))
not_left = refl

pub left : row (five Reliable) left_clean ≡ (216, Some (record { stop = Some (Ended (pos 5)); want = None; word = 0; first = 5; second = 5 }))
left = refl

pub no_mark : row (five Reliable) (brought_back ++ e0_mark 0 1 ∷ []) ≡ (214, Some (record { stop = None; want = None; word = 0x1000000000180000; first = 5; second = 5 }))
no_mark = refl

pub unmarked : row (five Reliable) (brought_back ++ e0_mark 0 1 ∷ e0 ∷ []) ≡ (215, None)
unmarked = refl
