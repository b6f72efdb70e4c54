-- Worked examples, proved by computation.
use Rattle.std.proofs.Common.{◌≡◌, [], ◌∷◌, None, Ok, Err, refl}
use Rattle.cip_message.specs.declared.path.PathFault.TheVariants as fault
use Rattle.cip_message.specs.PathReading.{segment_of, class_of, instance_of, attribute_of, member_of, whole_of, path_of}
use Rattle.cip_message.specs.PathWriting.{short}
use Rattle.cip_message.specs.Open.{large_open_of, large_connection_type, large_size_of}

-- a class in 16 bits after a pad byte, an instance in 8 bits
wide_class : path_of (0x21 ∷ 0x77 ∷ 0xff ∷ 0 ∷ 0x24 ∷ 1 ∷ []) ≡ Ok (record { class = 255; instance = 1; attribute = None; member = None })
unfolding segment_of class_of instance_of attribute_of member_of whole_of path_of
wide_class = refl

-- a member before an attribute
out_of_order : path_of (0x20 ∷ 0 ∷ 0x24 ∷ 1 ∷ 0x28 ∷ 1 ∷ 0x30 ∷ 1 ∷ []) ≡ Err fault.Order
unfolding segment_of class_of instance_of attribute_of member_of whole_of path_of
out_of_order = refl

-- a class in 16 bits, an instance in 32
shortest : short (record { class = 256; instance = 65536; attribute = None; member = None }) ≡ 0x21 ∷ 0 ∷ 0 ∷ 1 ∷ 0x26 ∷ 0 ∷ 0 ∷ 0 ∷ 1 ∷ 0 ∷ []
unfolding short
shortest = refl

-- a large open request, of a size of 4,002 bytes and one of 4,003
large_request : large_open_of (0x0a ∷ 0x0e ∷ 0 ∷ 0 ∷ 0 ∷ 0 ∷ 0x44 ∷ 0x33 ∷ 0x22 ∷ 0x11 ∷ 6 ∷ 0 ∷ 0x42 ∷ 0 ∷ 0x78 ∷ 0x56 ∷ 0x34 ∷ 0x12
    ∷ 0 ∷ 0 ∷ 0 ∷ 0 ∷ 0x80 ∷ 0x84 ∷ 0x1e ∷ 0 ∷ 0xa2 ∷ 0x0f ∷ 0 ∷ 0x42 ∷ 0x81 ∷ 0x84 ∷ 0x1e ∷ 0 ∷ 0xa3 ∷ 0x0f ∷ 0 ∷ 0x42
    ∷ 0xa3 ∷ 2 ∷ 0x20 ∷ 2 ∷ 0x24 ∷ 1 ∷ [])
    ≡ Ok (record {
      priority_and_tick_time = 0x0a;
      timeout_ticks = 0x0e;
      o_to_t_id = 0;
      t_to_o_id = 0x11223344;
      connection_serial = 6;
      originator_vendor = 0x42;
      originator_serial = 0x12345678;
      timeout_multiplier = 0;
      o_to_t_rpi = 2000000;
      o_to_t_parameters = 0x42000fa2;
      t_to_o_rpi = 2000001;
      t_to_o_parameters = 0x42000fa3;
      transport = 0xa3;
      path = 0x20 ∷ 2 ∷ 0x24 ∷ 1 ∷ [];
    })
unfolding large_open_of
large_request = refl

-- its parameters
large_type : large_connection_type 0x42000fa2 ≡ 2
large_type = refl

large_size : large_size_of 0x42000fa2 ≡ 4002
large_size = refl
