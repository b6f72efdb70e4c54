-- What C is told of a configuration that is refused.
use Rattle.std.specs.Prelude.{ℕ, ◌≡◌, ◌<◌, ◌⊎◌, if◌then◌else◌, List, [], ◌∷◌, length, Option, Some, None}
use Rattle.cip_application.specs.declared.config.ObjectConfig.{ObjectConfig}
use Rattle.cip_application.specs.declared.config.ServiceConfig.{ServiceConfig}
use Rattle.enip_config.specs.Commands.{is_queued}
use Rattle.enip_config.specs.Documents.{IsDescribed, IsRefused}
use Rattle.config_explained.specs.Explained.{refusal_of}
use Rattle.enip_config.specs.declared.configuration.Configuration.{Configuration}
use Rattle.config_explained.specs.declared.explanation.Explanation.{Explanation}
use Rattle.enip_c.specs.Buffer.{in_buffer}
use Rattle.enip_c.specs.declared.explained.ExplainOutcome.{ExplainOutcome}
use Rattle.enip_c.specs.declared.explained.ExplainOutcome.TheVariants.{Accepted, Written, Room, Memory}
use Rattle.enip_c.specs.declared.queued_service.QueuedService.{QueuedService}

-- The number of bytes that C is told: 0 if none were written.
abbrev pub explained_count : ExplainOutcome → ℕ
explained_count Accepted = 0
explained_count (Written count) = count
explained_count Room = 0
explained_count Memory = 0

-- Bytes of a text were written, or they do not fit, or memory ran out.
abbrev pub IsPrinted : List ℕ → List ℕ → ExplainOutcome → Type 0
IsPrinted old new Accepted = ⊥
IsPrinted old new (Written count) = (bytes : List ℕ) × (count ≡ length bytes) × (new ≡ in_buffer bytes old)
IsPrinted old new Room = (bytes : List ℕ) × (length old < length bytes) × (new ≡ old)
IsPrinted old new Memory = new ≡ old

-- The number of the first queued service of an object, and the first queued service, in the order of the configuration.
abbrev pub first_queued_of : List ServiceConfig → Option ℕ
first_queued_of [] = None
first_queued_of (s ∷ services) = if is_queued s then Some s.number else first_queued_of services

abbrev pub queued_in : ObjectConfig → Option ℕ → Option QueuedService → Option QueuedService
queued_in o (Some number) others = Some (record { class = o.class; instance = o.instance; number = number })
queued_in o None others = others

abbrev pub first_queued : List ObjectConfig → Option QueuedService
first_queued [] = None
first_queued (o ∷ objects) = queued_in o (first_queued_of o.services.items) (first_queued objects)

-- The text describes a configuration with this first queued service, if one is queued.
abbrev pub IsQueuedIn : List ℕ → Option QueuedService → Type 0
IsQueuedIn text service =
    (c : Configuration) × (IsDescribed text c × (first_queued c.objects.objects.items ≡ service))

-- What refuses the text: a check, or a queued service.
abbrev pub IsReason : List ℕ → Type 0
IsReason text =
    ((explanation : Explanation) × IsRefused text (refusal_of explanation))
    ⊎ ((service : QueuedService) × IsQueuedIn text (Some service))

-- The configuration is accepted and no service of it is queued, or memory ran out, or the reason was printed. Only then
-- does the buffer change.
abbrev pub IsExplainOutcome : List ℕ → List ℕ → List ℕ → ExplainOutcome → Type 0
IsExplainOutcome text old new Accepted = IsQueuedIn text None × (new ≡ old)
IsExplainOutcome text old new (Written count) = IsReason text × IsPrinted old new (Written count)
IsExplainOutcome text old new Room = IsReason text × IsPrinted old new Room
IsExplainOutcome text old new Memory = new ≡ old

-- The number that C is told is that of the outcome.
abbrev pub IsExplainedToC : List ℕ → List ℕ → List ℕ → ℕ → Type 0
IsExplainedToC text old new result =
    (outcome : ExplainOutcome) × IsExplainOutcome text old new outcome × (result ≡ explained_count outcome)
