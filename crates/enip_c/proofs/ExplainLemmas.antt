-- What is printed for C, and why.
use Rattle.std.proofs.Common.{◌≡◌, ℕ, List, Some, inr}
use Rattle.enip_config.specs.Documents.{IsDescribed}
use Rattle.enip_config.specs.declared.configuration.Configuration.{Configuration}
use Rattle.enip_c.specs.ExplainCalls.{IsExplainOutcome, IsPrinted, IsReason, first_queued}
use Rattle.enip_c.specs.declared.explained.ExplainOutcome.{ExplainOutcome}
use Rattle.enip_c.specs.declared.explained.ExplainOutcome.TheVariants.{Accepted, Written, Room, Memory}
use Rattle.enip_c.specs.declared.queued_service.QueuedService.{QueuedService}

printed : (text old new : List ℕ) (outcome : ExplainOutcome) → IsReason text → IsPrinted old new outcome → IsExplainOutcome text old new outcome
printed text old new Accepted reason is = absurd is
printed text old new (Written count) reason is = (reason, is)
printed text old new Room reason is = (reason, is)
printed text old new Memory reason is = is

-- a service of it is queued
pub service_printed : (text old new : List ℕ) (outcome : ExplainOutcome) (c : Configuration) (service : QueuedService) → IsDescribed text c
    → first_queued c.objects.objects.items ≡ Some service → IsPrinted old new outcome → IsExplainOutcome text old new outcome
service_printed text old new outcome c service described first is =
    printed text old new outcome (inr (service, (c, (described, first)))) is
