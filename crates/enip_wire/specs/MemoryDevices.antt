use Rattle.std.specs.Prelude.{if◌then◌else◌, ◌==◌, ◌&&◌, nat_lt, ℕ, zero, suc, ◌+◌, ◌-◌, min, List, ◌++◌, length, take}
use Rattle.std.specs.Prelude.{drop, slice_index, Option, Some, None}
use Rattle.enip_wire.specs.declared.device.call_behavior.CallBehavior.{CallBehavior}

-- How many of at most `most` bytes a call moves, if this many calls succeed before one fails. The failing call
-- moves none.
abbrev pub size_before : Option ℕ → ℕ → Option ℕ
size_before (Some zero) most = None
size_before (Some (suc calls)) most = Some most
size_before None most = Some most

-- How many calls succeed before one fails, after one more call.
abbrev pub calls_left : Option ℕ → Option ℕ
calls_left (Some zero) = None
calls_left (Some (suc calls)) = Some calls
calls_left None = None

-- How many of the available bytes a call moves, or None if it fails.
abbrev pub size_of : CallBehavior → ℕ → Option ℕ
size_of c there = size_before c.before_failure (min there c.largest_size)

-- The behavior of later calls, after a call with this result.
abbrev pub after_call : CallBehavior → Option ℕ → CallBehavior
after_call c None = record c { before_failure = calls_left c.before_failure; failures = c.failures + 1 }
after_call c (Some n) = record c { before_failure = calls_left c.before_failure }

-- A source in memory: the bytes that are left, the moments of the reads, the moment of the last read that gave a
-- byte, how many reads were made, and how it answers its calls.
pub record SourceState : Type 0 where
  pub left : List ℕ
  pub moments : List ℕ
  pub moment : ℕ
  pub reads : ℕ
  pub calls : CallBehavior

-- The moment of the read after `before` others. After the end of the list its last moment is used again. The moment
-- is 0 if the list is empty.
abbrev pub moment_at : List ℕ → ℕ → ℕ
moment_at moments before = slice_index moments (min before (length moments - 1))

-- How many bytes a read into a slice of this size gives, or None if it fails.
abbrev pub given_by : SourceState → ℕ → Option ℕ
given_by s size = size_of s.calls (min size (length s.left))

-- A source after a read that gave this many bytes, or failed.
abbrev pub after_read : SourceState → Option ℕ → SourceState
after_read s None = record s { reads = s.reads + 1; calls = after_call s.calls None }
after_read s (Some n) =
    record s {
      left = drop n s.left;
      moment = if n == 0 then s.moment else moment_at s.moments s.reads;
      reads = s.reads + 1;
      calls = after_call s.calls (Some n);
    }

-- A sink in memory: the bytes that were written, how many more fit, and how it answers its calls.
pub record SinkState : Type 0 where
  pub written : List ℕ
  pub capacity : ℕ
  pub calls : CallBehavior

-- How many bytes a write of a slice of this size takes, or None if it fails. A write to a full sink fails.
abbrev pub taken_by : SinkState → ℕ → Option ℕ
taken_by s size = if (s.capacity == 0) && nat_lt 0 size then None else size_of s.calls (min size s.capacity)

-- A sink after a write that took this many of the bytes, or failed.
abbrev pub after_write : SinkState → List ℕ → Option ℕ → SinkState
after_write s from None = record s { calls = after_call s.calls None }
after_write s from (Some n) =
    record s { written = s.written ++ take n from; capacity = s.capacity - n; calls = after_call s.calls (Some n) }
