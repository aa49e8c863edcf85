-- Theorems that rest on those which a wrong definition breaks: there is no finding exactly when it is a fan, or a bundle; which paths survive; a plain route is a
-- way and a fan; the links of a mesh that is given by its doors.
pub mod Keeps
pub mod Judged
pub mod Alike
pub mod Bundles
pub mod Cuts
pub mod Survive
pub mod Routed
pub mod Doors
