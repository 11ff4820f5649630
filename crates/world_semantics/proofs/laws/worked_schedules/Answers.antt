use Rattle.world_semantics.proofs.Schedules.{brought, not_yet, read, held, idle, no_frame, elsewhere, no_put, no_get, no_more, closes, stops, moves, fails, fetched, comes, gives_up, idle_again, opens, none_begun, begins, no_fetch, nobody, leaves, later, not_left, left, no_mark, unmarked}
use Rattle.world_semantics.proofs.laws.worked_schedules.Goals as goal

pub returns : goal.returns
returns c = record {
  brought_back = brought;
  not_returned = not_yet;
  read_meanwhile = read;
  held_meanwhile = held;
  idle = idle;
  no_frame = no_frame;
  elsewhere = elsewhere;
  put_failed = no_put;
  get_failed = no_get;
  no_more = no_more;
  closes = closes;
  stops = stops;
  moved_itself = moves;
  failed_itself = fails;
  fetched_first = fetched;
  brought_by = comes;
  given_up = gives_up;
  given_up_twice = idle_again;
  opened_first = opens;
  nothing_begun = none_begun;
  begun_first = begins;
  fetch_failed = no_fetch;
  no_fetcher = nobody;
  left_itself = leaves;
  brought_back_later = later;
  leaves_not = not_left;
  left_clean = left;
  no_mark = no_mark;
  nothing_marked = unmarked;
}
