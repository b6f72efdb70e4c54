-- The tables `tcp_ip` and `ethernet_link`, and the objects that they make.
use Rattle.std.proofs.Common.{◌≡◌, ℕ, ◌<◌, List, [], ◌∷◌, ◌++◌, length, map, append-nil, Option, Some, None, inl, inr, refl, sym, ap, ◌∙◌, arith}
use Rattle.toml.specs.Data.{Data, array, Members}
use Rattle.toml.specs.View.{view, items_view}
use Rattle.toml.specs.declared.value.Value.{Value}
use Rattle.cip_application.specs.declared.config.AttributeConfig.{AttributeConfig}
use Rattle.cip_application.specs.declared.config.ObjectConfig.{ObjectConfig}
use Rattle.cip_application.specs.Attributes.{AttributeValues}
use Rattle.cip_application.specs.Configuration.{attribute_of_config}
use Rattle.cip_application.specs.Standard.{InterfaceValues, LinkValues, interface_attributes, link_attributes, IsStandard}
use Rattle.config_refusal.specs.declared.fault.LoadFault.{LoadFault}
use Rattle.attribute_types.specs.Values.{IsBad, IsBadOrMemory}
use Rattle.enip_config.specs.Documents.{IsUnread}
use Rattle.enip_config.specs.Objects.{attribute_seen, object_seen, objects_of}
use Rattle.enip_config.specs.StandardObjects.{two_addresses, six_bytes, interface_of, link_of, values_seen, standard_object, interface_objects, link_objects, all_objects_of}

-- There are at most two name servers.
pub over_two_addresses : (vs : List Value) → 2 < length vs → two_addresses (array (items_view vs)) ≡ None
over_two_addresses [] many = absurd (omega arith)
over_two_addresses (a ∷ []) many = absurd (omega arith)
over_two_addresses (a ∷ b ∷ []) many = absurd (omega arith)
over_two_addresses (a ∷ b ∷ c ∷ vs) many = refl

-- A MAC address has six values.
pub under_six : (vs : List Value) → length vs < 6 → six_bytes (array (items_view vs)) ≡ None
under_six [] few = refl
under_six (a ∷ []) few = refl
under_six (a ∷ b ∷ []) few = refl
under_six (a ∷ b ∷ c ∷ []) few = refl
under_six (a ∷ b ∷ c ∷ d ∷ []) few = refl
under_six (a ∷ b ∷ c ∷ d ∷ e ∷ []) few = refl
under_six (a ∷ b ∷ c ∷ d ∷ e ∷ f ∷ vs) few = absurd (omega arith)

pub over_six : (vs : List Value) → 6 < length vs → six_bytes (array (items_view vs)) ≡ None
over_six [] many = absurd (omega arith)
over_six (a ∷ []) many = absurd (omega arith)
over_six (a ∷ b ∷ []) many = absurd (omega arith)
over_six (a ∷ b ∷ c ∷ []) many = absurd (omega arith)
over_six (a ∷ b ∷ c ∷ d ∷ []) many = absurd (omega arith)
over_six (a ∷ b ∷ c ∷ d ∷ e ∷ []) many = absurd (omega arith)
over_six (a ∷ b ∷ c ∷ d ∷ e ∷ f ∷ []) many = absurd (omega arith)
over_six (a ∷ b ∷ c ∷ d ∷ e ∷ f ∷ g ∷ vs) many = refl

-- An object of the standard, as it is seen.
seen_values : (attributes : List AttributeConfig) → map attribute_seen attributes ≡ map values_seen (map attribute_of_config attributes)
seen_values [] = refl
seen_values (a ∷ attributes) = ap (λ rest. attribute_seen a ∷ rest) (seen_values attributes)

pub standard_seen : (class : ℕ) (attributes : List AttributeValues) (o : ObjectConfig) → IsStandard class attributes o → object_seen o ≡ standard_object class attributes
standard_seen class attributes o is =
    rw (is.standard, is.of_class, is.first, is.unnamed, is.without_services, is.without_lists, seen_values o.attributes.items, is.with_attributes) refl

pub map_last : (objects : List ObjectConfig) (o : ObjectConfig) → map object_seen (objects ++ (o ∷ [])) ≡ map object_seen objects ++ (object_seen o ∷ [])
map_last [] o = refl
map_last (x ∷ objects) o = ap (λ rest. object_seen x ∷ rest) (map_last objects o)

pub interface_pushed : (objects after : List ObjectConfig) (o : ObjectConfig) (i : InterfaceValues) → after ≡ objects ++ (o ∷ []) → IsStandard 0xf5 (interface_attributes i) o
    → map object_seen after ≡ map object_seen objects ++ interface_objects (Some i)
interface_pushed objects after o i is standard =
    ap (map object_seen) is ∙ map_last objects o
    ∙ ap (λ x. map object_seen objects ++ (x ∷ [])) (standard_seen 0xf5 (interface_attributes i) o standard)

pub link_pushed : (objects after : List ObjectConfig) (o : ObjectConfig) (l : LinkValues) → after ≡ objects ++ (o ∷ []) → IsStandard 0xf6 (link_attributes l) o
    → map object_seen after ≡ map object_seen objects ++ link_objects (Some l)
link_pushed objects after o l is standard =
    ap (map object_seen) is ∙ map_last objects o
    ∙ ap (λ x. map object_seen objects ++ (x ∷ [])) (standard_seen 0xf6 (link_attributes l) o standard)

-- A table that could not be read.
pub unread_interface : (described : Members) (fault : LoadFault) → IsBad (interface_of described) fault → IsUnread described fault
unread_interface described fault bad = rw bad.0 (refl, inr (inr (inr (inr (inr (inr (inl (rw bad.1 refl))))))))

pub unread_link : (described : Members) (fault : LoadFault) (i : Option InterfaceValues) → interface_of described ≡ Some i → IsBad (link_of described) fault → IsUnread described fault
unread_link described fault i found bad = rw bad.0 (refl, inr (inr (inr (inr (inr (inr (inl (rw (found, bad.1) refl))))))))

pub unread_objects : (described : Members) (fault : LoadFault) (i : Option InterfaceValues) (l : Option LinkValues) → interface_of described ≡ Some i → link_of described ≡ Some l
    → IsBadOrMemory (objects_of described) fault → IsUnread described fault
unread_objects described fault i l found linked (inl memory) = rw memory tt
unread_objects described fault i l found linked (inr bad) = rw bad.0 (refl, inr (inr (inr (inr (inr (inr (inl (rw (found, linked, bad.1) refl))))))))
