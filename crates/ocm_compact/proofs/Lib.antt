pub mod Texts
pub mod Asking
pub mod Going
pub mod Alike
pub mod WholeImages
pub mod Made
