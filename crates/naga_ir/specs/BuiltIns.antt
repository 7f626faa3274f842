-- The numbers of built-in values in texts and words.
use Rattle.std.specs.Prelude.{ℕ, List, [], ◌∷◌, true, false}
use Rattle.naga_ir.specs.declared.built_in.BuiltIn.{BuiltIn}
use Rattle.naga_ir.specs.declared.built_in.BuiltIn.TheVariants.{Position, ViewIndex, BaseInstance, BaseVertex, ClipDistances, CullDistance, InstanceIndex, PointSize, VertexIndex, DrawIndex, FragDepth, PointCoord, FrontFacing, PrimitiveIndex, Barycentric, SampleIndex, SampleMask, GlobalInvocationId, LocalInvocationId, LocalInvocationIndex, WorkGroupId, WorkGroupSize, NumWorkGroups, NumSubgroups, SubgroupId, SubgroupSize, SubgroupInvocationId, MeshTaskSize, CullPrimitive, PointIndex, LineIndices, TriangleIndices, VertexCount, Vertices, PrimitiveCount, Primitives, RayInvocationId, NumRayInvocations, InstanceCustomData, GeometryIndex, WorldRayOrigin, WorldRayDirection, ObjectRayOrigin, ObjectRayDirection, RayTmin, RayTCurrentMax, ObjectToWorld, WorldToObject, HitKind}

-- the built-in values, each at the place of its number
abbrev pub built_ins : List BuiltIn
built_ins =
    Position false ∷
    Position true ∷
    ViewIndex ∷
    BaseInstance ∷
    BaseVertex ∷
    ClipDistances ∷
    CullDistance ∷
    InstanceIndex ∷
    PointSize ∷
    VertexIndex ∷
    DrawIndex ∷
    FragDepth ∷
    PointCoord ∷
    FrontFacing ∷
    PrimitiveIndex ∷
    Barycentric false ∷
    Barycentric true ∷
    SampleIndex ∷
    SampleMask ∷
    GlobalInvocationId ∷
    LocalInvocationId ∷
    LocalInvocationIndex ∷
    WorkGroupId ∷
    WorkGroupSize ∷
    NumWorkGroups ∷
    NumSubgroups ∷
    SubgroupId ∷
    SubgroupSize ∷
    SubgroupInvocationId ∷
    MeshTaskSize ∷
    CullPrimitive ∷
    PointIndex ∷
    LineIndices ∷
    TriangleIndices ∷
    VertexCount ∷
    Vertices ∷
    PrimitiveCount ∷
    Primitives ∷
    RayInvocationId ∷
    NumRayInvocations ∷
    InstanceCustomData ∷
    GeometryIndex ∷
    WorldRayOrigin ∷
    WorldRayDirection ∷
    ObjectRayOrigin ∷
    ObjectRayDirection ∷
    RayTmin ∷
    RayTCurrentMax ∷
    ObjectToWorld ∷
    WorldToObject ∷
    HitKind ∷
    []

-- the number of a built-in value
abbrev pub number : BuiltIn → ℕ
number (Position false) = 0
number (Position true) = 1
number ViewIndex = 2
number BaseInstance = 3
number BaseVertex = 4
number ClipDistances = 5
number CullDistance = 6
number InstanceIndex = 7
number PointSize = 8
number VertexIndex = 9
number DrawIndex = 10
number FragDepth = 11
number PointCoord = 12
number FrontFacing = 13
number PrimitiveIndex = 14
number (Barycentric false) = 15
number (Barycentric true) = 16
number SampleIndex = 17
number SampleMask = 18
number GlobalInvocationId = 19
number LocalInvocationId = 20
number LocalInvocationIndex = 21
number WorkGroupId = 22
number WorkGroupSize = 23
number NumWorkGroups = 24
number NumSubgroups = 25
number SubgroupId = 26
number SubgroupSize = 27
number SubgroupInvocationId = 28
number MeshTaskSize = 29
number CullPrimitive = 30
number PointIndex = 31
number LineIndices = 32
number TriangleIndices = 33
number VertexCount = 34
number Vertices = 35
number PrimitiveCount = 36
number Primitives = 37
number RayInvocationId = 38
number NumRayInvocations = 39
number InstanceCustomData = 40
number GeometryIndex = 41
number WorldRayOrigin = 42
number WorldRayDirection = 43
number ObjectRayOrigin = 44
number ObjectRayDirection = 45
number RayTmin = 46
number RayTCurrentMax = 47
number ObjectToWorld = 48
number WorldToObject = 49
number HitKind = 50
