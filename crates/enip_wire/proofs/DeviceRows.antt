-- Worked examples of the devices in memory.
use Rattle.std.proofs.Common.{◌≡◌, [], ◌∷◌, ◌++◌, take, Some, None, refl}
use Rattle.std.specs.Prelude.{ℕ, List, Option, drop, length}
use Rattle.enip_wire.specs.MemoryDevices.{SourceState, given_by, after_read, SinkState, taken_by, after_write}

-- ten bytes
abbrev ten : List ℕ
ten = 0 ∷ 1 ∷ 2 ∷ 3 ∷ 4 ∷ 5 ∷ 6 ∷ 7 ∷ 8 ∷ 9 ∷ []

-- a source of ten bytes: the moments of its reads, the most bytes of each, and how many succeed before one fails
abbrev source : List ℕ → ℕ → Option ℕ → SourceState
source moments largest failing =
    record {
      left = ten;
      moments = moments;
      moment = 0;
      reads = 0;
      calls = record { largest_size = largest; before_failure = failing; failures = 0 };
    }

-- what successive reads into slices of these sizes give
abbrev given : List ℕ → SourceState → List (Option ℕ)
given [] s = []
given (n ∷ ns) s = given_by s n ∷ given ns (after_read s (given_by s n))

-- the source after them
abbrev after : List ℕ → SourceState → SourceState
after [] s = s
after (n ∷ ns) s = after ns (after_read s (given_by s n))

-- reads up to the end, and at the end again
to_the_end : given (8 ∷ 8 ∷ 8 ∷ 8 ∷ []) (source [] 100 None) ≡ Some 8 ∷ Some 2 ∷ Some 0 ∷ Some 0 ∷ []
to_the_end = refl

-- the second read writes two bytes over the front of the slice
second_read : take 2 (after (8 ∷ []) (source [] 100 None)).left ++ drop 2 (take 8 ten)
    ≡ 8 ∷ 9 ∷ 2 ∷ 3 ∷ 4 ∷ 5 ∷ 6 ∷ 7 ∷ []
second_read = refl

-- four reads, no failure, and no moment
four_reads : after (8 ∷ 8 ∷ 8 ∷ 8 ∷ []) (source [] 100 None)
    ≡ record (source [] 100 None) { left = []; reads = 4 }
four_reads = refl

-- at most four bytes a read
largest_size : given (8 ∷ 8 ∷ 8 ∷ 8 ∷ []) (source [] 4 None) ≡ Some 4 ∷ Some 4 ∷ Some 2 ∷ Some 0 ∷ []
largest_size = refl

-- the second read fails: it moves no byte, and none fails after it
second_fails : given (8 ∷ 8 ∷ 8 ∷ 8 ∷ 8 ∷ []) (source [] 4 (Some 1)) ≡ Some 4 ∷ None ∷ Some 4 ∷ Some 2 ∷ Some 0 ∷ []
second_fails = refl

no_failure_yet : (after (8 ∷ []) (source [] 4 (Some 1))).calls.failures ≡ 0
no_failure_yet = refl

one_failure : after (8 ∷ 8 ∷ []) (source [] 4 (Some 1))
    ≡ record (source [] 4 None) { left = drop 4 ten; reads = 2; calls = record { largest_size = 4; before_failure = None; failures = 1 } }
one_failure = refl

one_failure_only : after (8 ∷ 8 ∷ 8 ∷ 8 ∷ 8 ∷ []) (source [] 4 (Some 1))
    ≡ record (source [] 4 None) { left = []; reads = 5; calls = record { largest_size = 4; before_failure = None; failures = 1 } }
one_failure_only = refl

-- the first read fails
first_fails : given (8 ∷ []) (source (7 ∷ []) 100 (Some 0)) ≡ None ∷ []
first_fails = refl

first_failed : after (8 ∷ []) (source (7 ∷ []) 100 (Some 0))
    ≡ record (source (7 ∷ []) 100 None) { reads = 1; calls = record { largest_size = 100; before_failure = None; failures = 1 } }
first_failed = refl

-- one moment for each read, 0 for the first
abbrev timed : SourceState
timed = source (0 ∷ 20000000 ∷ 30000000 ∷ []) 4 None

timed_reads : given (8 ∷ 8 ∷ 0 ∷ 8 ∷ 8 ∷ []) timed ≡ Some 4 ∷ Some 4 ∷ Some 0 ∷ Some 2 ∷ Some 0 ∷ []
timed_reads = refl

first_moment : (after (8 ∷ []) timed).moment ≡ 0
first_moment = refl

second_moment : (after (8 ∷ 8 ∷ []) timed).moment ≡ 20000000
second_moment = refl

-- a read into an empty slice gives no byte, so its moment is not used
no_moment : (after (8 ∷ 8 ∷ 0 ∷ []) timed).moment ≡ 20000000
no_moment = refl

-- after the end of the list, its last moment again
last_moment : (after (8 ∷ 8 ∷ 0 ∷ 8 ∷ []) timed).moment ≡ 30000000
last_moment = refl

-- at the end no byte is read, and the moment does not change
end_moment : (after (8 ∷ 8 ∷ 0 ∷ 8 ∷ 8 ∷ []) timed).moment ≡ 30000000
end_moment = refl

five_reads : (after (8 ∷ 8 ∷ 0 ∷ 8 ∷ 8 ∷ []) timed).reads ≡ 5
five_reads = refl

-- a failed read uses up a moment too
abbrev failing : SourceState
failing = source (5 ∷ 6 ∷ 7 ∷ []) 1 (Some 1)

failing_reads : given (1 ∷ 1 ∷ 1 ∷ []) failing ≡ Some 1 ∷ None ∷ Some 1 ∷ []
failing_reads = refl

moment_before : (after (1 ∷ []) failing).moment ≡ 5
moment_before = refl

moment_of_failed : (after (1 ∷ 1 ∷ []) failing).moment ≡ 5
moment_of_failed = refl

moment_behind : (after (1 ∷ 1 ∷ 1 ∷ []) failing).moment ≡ 7
moment_behind = refl

-- a read into an empty slice is not the end
empty_slice : given (0 ∷ 8 ∷ []) (source [] 100 None) ≡ Some 0 ∷ Some 8 ∷ []
empty_slice = refl

two_reads : (after (0 ∷ 8 ∷ []) (source [] 100 None)).reads ≡ 2
two_reads = refl

-- a sink of six bytes: the most bytes of each write, and how many succeed before one fails
abbrev sink : ℕ → Option ℕ → SinkState
sink largest failing =
    record { written = []; capacity = 6; calls = record { largest_size = largest; before_failure = failing; failures = 0 } }

-- how many bytes successive writes of these sizes take
abbrev taken : List (List ℕ) → SinkState → List (Option ℕ)
taken [] s = []
taken (bs ∷ rest) s = taken_by s (length bs) ∷ taken rest (after_write s bs (taken_by s (length bs)))

-- the sink after them
abbrev after_writes : List (List ℕ) → SinkState → SinkState
after_writes [] s = s
after_writes (bs ∷ rest) s = after_writes rest (after_write s bs (taken_by s (length bs)))

-- until it is full: then only an empty write succeeds
abbrev until_full : List (List ℕ)
until_full = ten ∷ (4 ∷ []) ∷ drop 5 ten ∷ drop 6 ten ∷ drop 6 ten ∷ [] ∷ []

until_full-taken : taken until_full (sink 4 None) ≡ Some 4 ∷ Some 1 ∷ Some 1 ∷ None ∷ None ∷ Some 0 ∷ []
until_full-taken = refl

until_full-none_failed : (after_writes (take 3 until_full) (sink 4 None)).calls.failures ≡ 0
until_full-none_failed = refl

until_full-written : after_writes until_full (sink 4 None)
    ≡ record { written = take 6 ten; capacity = 0; calls = record { largest_size = 4; before_failure = None; failures = 2 } }
until_full-written = refl

-- the second write fails
abbrev pairs : List (List ℕ)
pairs = (0 ∷ 1 ∷ []) ∷ (2 ∷ 3 ∷ []) ∷ (2 ∷ 3 ∷ []) ∷ []

pairs-taken : taken pairs (sink 100 (Some 1)) ≡ Some 2 ∷ None ∷ Some 2 ∷ []
pairs-taken = refl

pairs-failed : after_writes (take 2 pairs) (sink 100 (Some 1))
    ≡ record { written = 0 ∷ 1 ∷ []; capacity = 4; calls = record { largest_size = 100; before_failure = None; failures = 1 } }
pairs-failed = refl

pairs-written : (after_writes pairs (sink 100 (Some 1))).written ≡ 0 ∷ 1 ∷ 2 ∷ 3 ∷ []
pairs-written = refl
