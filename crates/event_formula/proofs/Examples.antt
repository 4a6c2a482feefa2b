-- The order of the formula's operations, by its bits. The samples are (6 s, 36 m, 1.6 m/s) and (17 s, 87.15 m, 7.7 m/s),
-- the event is at 38 m. What is expected was worked out with Python's floats, which are binary64 and nearest even, each
-- operation once; harness/reference and harness/plain answer the same time and speed for this event. Of the speed's
-- 40017cbbe600f7eb another order changes the last bits:
--   (v − v')·d/(t − t')              40017cbbe600f7f3
--   (v − v')·(d/(t − t'))            40017cbbe600f7ef
--   v·v − a·d, rounded once          40017cbbe600f7ed
--   v·v exact, a·d rounded           40017cbbe600f7ea
-- and of the time's 401c39e85e11a8fa:
--   t − d·(1/(v + speed))            401c39e85e11a8f8
--   (t·(v + speed) − d)/(v + speed)  401c39e85e11a8f9
--   from the sample before           401c39e85e11a8fc
use mathlib.Core.Path.{◌≡◌, refl}
use Prim.Native.Nat.{ℕ}
use mathlib.Core.Bool.{true}
use lib.Ieee.{Float, nan, inf, binary64, of_bits, add, sub, mul, div, eq}
use Rattle.floats.specs.Floats.{table_float}
use Rattle.root.specs.Root.{sqrt}
use Rattle.book_format.specs.declared.Sample.{Sample}
use Rattle.event_formula.specs.Event.{twice_ahead, passing_at, bad_passing}

-- a sample by the patterns of its time, offset and speed
abbrev seen : ℕ → ℕ → ℕ → Sample
seen time offset speed = record {
  time = of_bits binary64 time;
  offset = of_bits binary64 offset;
  speed = of_bits binary64 speed;
}

abbrev before : Sample
before = seen 0x4018000000000000 0x4042000000000000 0x3ff999999999999a

abbrev sample : Sample
sample = seen 0x4031000000000000 0x4055c9999999999a 0x401ecccccccccccd

-- a train that has run at 10 m/s stands at 100 m from 18 s on
abbrev running : Sample
running = seen 0x4024000000000000 0x404e000000000000 0x4024000000000000

abbrev standing : Sample
standing = seen 0x4032000000000000 0x4059000000000000 0

-- it still stands there at 78 s
abbrev later : Sample
later = seen 0x4053800000000000 0x4059000000000000 0

-- at 18 s it is at 100 m, at the smallest speed above zero
abbrev crawling : Sample
crawling = seen 0x4032000000000000 0x4059000000000000 1

-- it stands at 100 m a moment after 0 s, when it has run at 10 m/s: 2 ^ -1074 s
abbrev departing : Sample
departing = seen 0 0x404e000000000000 0x4024000000000000

abbrev at_once : Sample
at_once = seen 1 0x4059000000000000 0

-- 99 m and 100 m
abbrev short_of : Float
short_of = of_bits binary64 0x4058c00000000000

abbrev point : Float
point = of_bits binary64 0x4059000000000000

record Examples : Type 0 where
  -- "each operation rounded once"
  in_order_lem : passing_at sample before (of_bits binary64 0x4043000000000000)
      ≡ record { time = of_bits binary64 0x401c39e85e11a8fa; speed = of_bits binary64 0x40017cbbe600f7eb }
  -- "2 times (sample offset minus event offset)": 2 times each before the difference has the same bits at every offset
  -- that row 4 lets through, since doubling is exact. At 1.5 · 2^1023 and 2^1023 it would have no value; this has 2^1023.
  doubled_last : twice_ahead (seen 0 0x7fe8000000000000 0) (of_bits binary64 0x7fe0000000000000)
      ≡ of_bits binary64 0x7fe0000000000000
  -- Document 02, Ask 1: at the point d is 0, and so is v + speed. The time is the sample's own.
  stands : passing_at standing running point ≡ record { time = of_bits binary64 0x4032000000000000; speed = of_bits binary64 0 }
  still_stands : passing_at later standing point ≡ record { time = of_bits binary64 0x4053800000000000; speed = of_bits binary64 0 }
  -- at a speed whose square is 0 the root is 0, v + speed is v, and the quotient 0
  crawls : passing_at crawling running point ≡ record { time = of_bits binary64 0x4032000000000000; speed = of_bits binary64 0 }
  -- a metre before the point a train that stands at both samples has no time: d is 2 and v + speed is 0
  stands_beyond : passing_at later standing short_of ≡ record { time = inf true; speed = of_bits binary64 0 }
  stands_beyond_bad : bad_passing (passing_at later standing short_of) ≡ true
  -- and one that stops in next to no time has no speed: (0 − 10)/2 ^ -1074 is an infinity, and that times 0 no number
  stops_at_once : passing_at at_once departing point ≡ record { time = nan; speed = nan }

examples : Examples
unfolding add sub mul div eq of_bits sqrt twice_ahead passing_at bad_passing table_float
examples = record { in_order_lem = refl; doubled_last = refl; stands = refl; still_stands = refl; crawls = refl; stands_beyond = refl; stands_beyond_bad = refl; stops_at_once = refl }
