-- What a write by the device does, by the index of the assembly.
use Rattle.std.proofs.Common.{◌≡◌, ℕ, ◌+◌, Bool, true, false, cond, nat_le, List, length, Some, None, sym, ap, ◌∙◌}
use Rattle.cip_bytes.specs.declared.protocol.TheConstants.{ASSEMBLY}
use Rattle.cip_objects.specs.ChangeServices.{with_bytes_at}
use Rattle.cip_objects.specs.Contents.{Contents, bytes_at, with_value}
use Rattle.cip_objects.specs.ObjectRef.{number_at, data_at, IsAssemblyAt}
use Rattle.cip_objects.specs.DeviceWrites.{with_data, with_data_of, device_write}
use Rattle.cip_objects.specs.Tables.{Shape, shape_at}

-- nothing, if no assembly has the number
pub write_nowhere : (m : Contents) (i offset : ℕ) (bytes : List ℕ) → shape_at i m.shapes.assemblies ≡ None → device_write m i offset bytes ≡ None
unfolding device_write
write_nowhere m i offset bytes e = ap (with_data_of m i offset bytes) e

-- the assembly at an index
write_there : (m : Contents) (i offset assembly_index : ℕ) (bytes : List ℕ) (s : Shape) → IsAssemblyAt m.shapes i assembly_index → shape_at (number_at m.shapes assembly_index) m.shapes.assemblies ≡ Some s → device_write m i offset bytes ≡ with_data m (number_at m.shapes assembly_index) offset bytes
unfolding device_write
write_there m i offset assembly_index bytes s at e =
    ap (λ n. with_data_of m n offset bytes (shape_at n m.shapes.assemblies)) at.number
    ∙ ap (with_data_of m (number_at m.shapes assembly_index) offset bytes) e

pub write_past : (m : Contents) (i offset assembly_index : ℕ) (bytes : List ℕ) (s : Shape) → IsAssemblyAt m.shapes i assembly_index → shape_at (number_at m.shapes assembly_index) m.shapes.assemblies ≡ Some s → nat_le (offset + length bytes) (length (data_at m assembly_index)) ≡ false → device_write m i offset bytes ≡ None
write_past m i offset assembly_index bytes s at e h =
    let n = number_at m.shapes assembly_index in
    write_there m i offset assembly_index bytes s at e
    ∙ ap (λ t. cond t (Some (with_value m ASSEMBLY n 3 (with_bytes_at (bytes_at m ASSEMBLY n 3) offset bytes))) None)
    h

pub write_within : (m : Contents) (i offset assembly_index : ℕ) (bytes : List ℕ) (s : Shape) → IsAssemblyAt m.shapes i assembly_index → shape_at (number_at m.shapes assembly_index) m.shapes.assemblies ≡ Some s → nat_le (offset + length bytes) (length (data_at m assembly_index)) ≡ true → device_write m i offset bytes ≡ Some (with_value m ASSEMBLY (number_at m.shapes assembly_index) 3 (with_bytes_at (data_at m assembly_index) offset bytes))
write_within m i offset assembly_index bytes s at e h =
    let n = number_at m.shapes assembly_index in
    write_there m i offset assembly_index bytes s at e
    ∙ ap (λ t. cond t (Some (with_value m ASSEMBLY n 3 (with_bytes_at (bytes_at m ASSEMBLY n 3) offset bytes))) None)
    h

-- the assembly knows the size of its data
pub inside : (m : Contents) (assembly_index end : ℕ) (content : List ℕ) (size : ℕ) (t : Bool) → content ≡ data_at m assembly_index → size ≡ length content → nat_le end size ≡ t → nat_le end (length (data_at m assembly_index)) ≡ t
inside m assembly_index end content size t e f g = ap (nat_le end) (ap length (sym e) ∙ sym f) ∙ g
