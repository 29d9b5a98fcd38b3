-- A small story of a pipe with budget 0: two numbers are written and read, a flush waits for the first of them, and the
-- pipe is closed; and another pipe, whose reader is closed before its one number is read.
use Rattle.std.specs.Prelude.{ℕ, pos}
use Rattle.ak_pipe.specs.Pipe.{Pipe, fresh_pipe, put, after_write, after_read, after_flushed, after_close, after_close_read}

-- 7 is written with deferred 0, and deferred 1 waits for it to be consumed
abbrev pub one_written : Pipe ℕ
one_written = after_flushed 1 (after_write (pos 7) 0 (fresh_pipe 0))

-- it is read
abbrev pub one_read : Pipe ℕ
one_read = after_read 10 one_written

-- 8 is put, and the pipe is closed
abbrev pub closed_with_one : Pipe ℕ
closed_with_one = after_close (put (pos 8) one_read)

-- both ends are closed before 7 is read
abbrev pub reader_gone : Pipe ℕ
reader_gone = after_close_read one_written

-- a read waits
abbrev pub one_waits : Pipe ℕ
one_waits = after_read 10 (fresh_pipe 0)
