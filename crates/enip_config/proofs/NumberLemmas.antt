-- What holds of each key of a number.
use Rattle.enip_config.specs.declared.key.NumberKey.{NumberKey}
use Rattle.enip_config.specs.declared.key.NumberKey.TheVariants.{Vendor, DeviceType, ProductCode, Major, Minor, Serial, Status, State, Port, Peers, Connections, FirstHandle, FirstId, CounterValue, CounterLimit}

pub each_key : (P : NumberKey → Type 0) → P Vendor → P DeviceType → P ProductCode → P Major → P Minor → P Serial → P Status → P State → P Port → P Peers → P Connections → P FirstHandle → P FirstId → P CounterValue → P CounterLimit → (key : NumberKey) → P key
each_key P a b c d e f g h i j k l m n o Vendor = a
each_key P a b c d e f g h i j k l m n o DeviceType = b
each_key P a b c d e f g h i j k l m n o ProductCode = c
each_key P a b c d e f g h i j k l m n o Major = d
each_key P a b c d e f g h i j k l m n o Minor = e
each_key P a b c d e f g h i j k l m n o Serial = f
each_key P a b c d e f g h i j k l m n o Status = g
each_key P a b c d e f g h i j k l m n o State = h
each_key P a b c d e f g h i j k l m n o Port = i
each_key P a b c d e f g h i j k l m n o Peers = j
each_key P a b c d e f g h i j k l m n o Connections = k
each_key P a b c d e f g h i j k l m n o FirstHandle = l
each_key P a b c d e f g h i j k l m n o FirstId = m
each_key P a b c d e f g h i j k l m n o CounterValue = n
each_key P a b c d e f g h i j k l m n o CounterLimit = o
