-- A small story: of four bodies two run at once; one ends, and then one fails and stops the throttle.
use Rattle.std.specs.Prelude.{ℕ, true}
use Rattle.ak_throttle.specs.Throttle.{Throttle, fresh_throttle, enqueued, after_end, after_failure, with_mark}

-- two run and two wait, and deferred 9 waits for all four
abbrev pub four_bodies : Throttle ℕ
four_bodies = with_mark 9 (enqueued 13 (enqueued 12 (enqueued 11 (enqueued 10 (fresh_throttle 2 true)))))

-- body 1 ended
abbrev pub one_ended : Throttle ℕ
one_ended = after_end 1 four_bodies

-- body 0 failed
abbrev pub one_failed : Throttle ℕ
one_failed = after_failure 0 one_ended

-- and body 2 ended
abbrev pub all_over : Throttle ℕ
all_over = after_end 2 one_failed
