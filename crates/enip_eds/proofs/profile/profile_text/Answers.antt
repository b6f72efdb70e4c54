use Rattle.std.proofs.Common.{List, Bool, ◌++◌, ◌∙◌, ℕ, Option, ap}
use Rattle.std.specs.List.{flat_map}
use Rattle.cip_application.specs.declared.config.ObjectConfig.{ObjectConfig}
use Rattle.cip_objects.specs.declared.config.AssemblyConfig.{AssemblyConfig}
use Rattle.enip_eds.specs.DeviceTypes.{type_name_of}
use Rattle.enip_eds.specs.Profile.{assembly_lines, has_class, identity_lines, network_lines, object_line, before_assemblies}
use Rattle.enip_eds.specs.Texts.{text_in}
use Rattle.enip_eds.proofs.profile.profile_text.Goals as goal

pub returns : goal.returns
returns c =
    let o = c.args.objects.now in
    let whole : Option (List ℕ) → Bool → List AssemblyConfig → List ObjectConfig → Bool → Bool → List ℕ =
    λ n r a b i l. identity_lines n o ++ (before_assemblies c.args.reset r ++ (assembly_lines a ++ (flat_map object_line b ++ network_lines i l))) in
    let name = text_in c.device_type_name-name.result in
    let router = c.has_class-has_router.result in
    let found = c.network_of-network.result in
    c.in_ok-write.ensures.bytes
    ∙ ap (λ l. l ++ whole name router c.deref-3.result.now c.deref-4.result.now found.has_interface found.has_link) c.new-text.ensures.bytes
    ∙ ap (λ n. whole n router c.deref-3.result.now c.deref-4.result.now found.has_interface found.has_link) c.device_type_name-name.ensures
    ∙ ap (λ l. whole (type_name_of o.device_type) router l c.deref-4.result.now found.has_interface found.has_link) c.deref-3.ensures.value
    ∙ ap (λ l. whole (type_name_of o.device_type) router o.assemblies.items l found.has_interface found.has_link) c.deref-4.ensures.value
    ∙ ap (λ t. whole (type_name_of o.device_type) t o.assemblies.items o.objects.items found.has_interface found.has_link)
    (c.has_class-has_router.ensures ∙ ap (has_class 2) c.deref.ensures.value)
    ∙ ap (λ t. whole (type_name_of o.device_type) (has_class 2 o.objects.items) o.assemblies.items o.objects.items t found.has_link)
    (c.network_of-network.ensures.interface ∙ ap (has_class 0xf5) c.deref-2.ensures.value)
    ∙ ap (λ t. whole (type_name_of o.device_type) (has_class 2 o.objects.items) o.assemblies.items o.objects.items (has_class 0xf5 o.objects.items) t)
    (c.network_of-network.ensures.link ∙ ap (has_class 0xf6) c.deref-2.ensures.value)
