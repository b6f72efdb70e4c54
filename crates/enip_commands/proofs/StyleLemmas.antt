-- Data that are not values of a layout, in terms of the style.
use Rattle.std.proofs.Common.{◌≡◌, ℕ, List, Option, Some}
use Rattle.cip_layouts.specs.Layouts.{fields_of}
use Rattle.cip_layouts.specs.declared.layout.Layout.{Layout}
use Rattle.cip_layouts.specs.declared.layout.ValueShape.TheVariants as shapes
use Rattle.enip_commands.specs.declared.request_failure.RequestFailure.{RequestFailure}
use Rattle.enip_commands.specs.declared.request_failure.RequestFailure.TheVariants.{Hex, Session, Client}
use Rattle.enip_commands.specs.declared.request_failure.RequestFailure.TheVariants.{Shape, Fields, Program}
use Rattle.enip_commands.specs.declared.style.Style.{Style}
use Rattle.enip_commands.specs.Styles.{IsOfFields, IsUnprinted}

pub of_layout : (style : Style) (layout : Layout) (bytes : List ℕ) (failure : RequestFailure) → style.shape ≡ Some (shapes.Layout layout)
    → IsOfFields (fields_of layout) bytes failure → IsUnprinted style bytes failure
of_layout style layout bytes Hex same so = absurd so
of_layout style layout bytes (Session status) same so = absurd so
of_layout style layout bytes (Client fault) same so = absurd so
of_layout style layout bytes (Shape value_type fault) same so = absurd so
of_layout style layout bytes (Fields fault) same so = (layout, (same, so))
of_layout style layout bytes (Program fault) same so = so
